-- The literals and the calls of what is made are well formed.
use Rattle.std.specs.Prelude.{Contains, map, slice_get}
use Rattle.std.proofs.lemmas.Option.{get_or_from_slice_get, slice_get_within}
use Rattle.std.proofs.lemmas.List.Elements.{Contains-get_or}
use Rattle.std.proofs.Common.{◌≡◌, ℕ, suc, ◌+◌, ◌==◌, length, ap, Bool, true, false, List, [], ◌∷◌, ◌++◌, Option, Some, None, Result, Ok, Err, IfOk, refl, sym, ◌∙◌, subst, if◌then◌else◌, arith}
use Rattle.std.proofs.lemmas.Bool.{eqb-true}
use Rattle.gx_base.specs.declared.place.Place.{Place}
use Rattle.gx_num.specs.declared.Number.{Number}
use Rattle.gx_num.specs.declared.Number.TheVariants.{Int, Dec}
use Rattle.gx_ast.specs.declared.expression.BinaryOperator.{BinaryOperator}
use Rattle.gx_ast.specs.declared.expression.BinaryOperator.TheVariants as operator
use Rattle.gx_types.specs.SequenceType.{SequenceType}
use Rattle.gx_types.specs.declared.step.Axis.{Axis}
use Rattle.gx_types.specs.declared.step.Axis.TheVariants as axes
use Rattle.gx_types.specs.declared.step.Test.{Test}
use Rattle.gx_types.specs.declared.step.Test.TheVariants as tests
use Rattle.gx_funcs.specs.declared.function.Function.{Function}
use Rattle.gx_funcs.specs.declared.function.Function.TheVariants as functions
use Rattle.gx_funcs.specs.Function.{arity_of}
use Rattle.gx_resolved.specs.declared.tree.Construct.{Construct}
use Rattle.gx_resolved.specs.declared.tree.Construct.TheVariants as written
use Rattle.gx_resolved.specs.declared.tree.Declaration.{Declaration}
use Rattle.gx_resolved.specs.declared.tree.Declaration.TheVariants as declared
use Rattle.gx_resolved.specs.ResolvedTree.{ResolvedTree, ResolvedTrees, resolved_at, no_resolved, a_resolved}
use Rattle.gx_core.specs.declared.expression.BinaryOp.{BinaryOp}
use Rattle.gx_core.specs.declared.expression.BinaryClass.{BinaryClass}
use Rattle.gx_core.specs.declared.expression.BinaryClass.TheVariants.{Nodes, Combination}
use Rattle.gx_core.specs.BinaryOperators.{class_of}
use Rattle.gx_sorting.specs.declared.keys.KeyOrder.{KeyOrder}
use Rattle.gx_core.specs.declared.operator.ClauseKind.{ClauseKind}
use Rattle.gx_core.specs.declared.operator.ClauseKind.TheVariants as kinds
use Rattle.gx_core.specs.declared.operator.Operator.TheVariants as operators
use Rattle.gx_core.specs.declared.signature.FunctionSignature.{FunctionSignature}
use Rattle.gx_normal.specs.declared.signatures.Signatures.{Signatures}
use Rattle.gx_normal.specs.Signatures.{inside_parameters, of_arguments, numbered_signature, same_function, signature_called, signature_written, signatures_written, signatures_of, type_or_items, parameter_binders, user_call_at}
use Rattle.gx_resolved.specs.NestedMap.{innermost_value}
use Rattle.gx_resolved.specs.declared.tree.BoundName.{BoundName}
use Rattle.gx_core.specs.CalledFunctions.{type_of_parameter, signatures_from}
use Rattle.gx_core.specs.Functions.{functions_of}
use Rattle.gx_funcs.specs.Numbers.{number_atom}
use Rattle.gx_core.specs.Queries.{Core}
use Rattle.gx_core.specs.Expression.{CoreExpression, At, a_part, one_part, all_parts, outer_of}
use Rattle.gx_core.specs.Invariant.{IsCoreLiteral, number_of_parts, IsWellFormedExpression, ArePartsWellFormed, AreValuesWellFormed, IsWellFormedQuery, CallsDeclaredFunctions}
use Rattle.gx_core.proofs.DeclaredCalls.{well_formed_queries_call_declared_functions}
use Rattle.gx_normal.specs.Constructs.{within, boolean_around, core_sequence, operator_at, call_at, counted_call, call_of, empty_at, of_one, data_at, conditional_at, and_at, or_at, signed_at, cast_at, castable_at, operator_in_core, joined_by, joining, context_item_at, step_at, operand_of, nodes_at, data_around}
use Rattle.gx_normal.specs.Switches.{instance_at, treat_at, branch_at, case_in_front, branches_joined, over_operand, typeswitch_at, branch_or}
use Rattle.gx_normal.specs.declared.focus.Focus.{Focus}
use Rattle.gx_normal.specs.declared.clauses.Ending.{Ending}
use Rattle.gx_normal.specs.declared.clauses.Ending.TheVariants.{Returned, Condition, Sorted}
use Rattle.gx_normal.specs.Clauses.{Numbers, clause_numbers, behind_clause, numbered_binder, clause_in_front, key_in_front, key_order, ending_of_clauses}
use Rattle.gx_normal.specs.declared.contexts.Asked.TheVariants as asked
use Rattle.gx_normal.specs.declared.contexts.ContextUse.{ContextUse}
use Rattle.gx_normal.specs.declared.contexts.ContextUse.TheVariants as uses
use Rattle.gx_normal.specs.declared.contexts.ContextNumbers.{ContextNumbers}
use Rattle.gx_normal.specs.declared.filters.Predicate.{Predicate}
use Rattle.gx_normal.specs.declared.filters.Predicate.TheVariants as predicates
use Rattle.gx_normal.specs.Contexts.{asks_context, path_use, predicate_use, no_focus, focus_with, behind_context, hidden_variable, hidden_let, hidden_for, ordered_if, with_size, position_from_end, loop_at, context_numbers}
use Rattle.gx_normal.specs.Filters.{predicate_of, is_reverse_step, position_is, kept_at, filtered_by}
use Rattle.gx_normal.specs.Normalisation.{number_at, variable_at, of_two, of_three, joined_at, constructed, is_to_descendants, left_of_path, core_of, construct_core, cores_of, clauses_core, branch_core, path_core, predicates_core, filtered_core, function_core, declarations_of, behind_declarations, main_core, is_kept_part, parts_with}

-- the signatures with numbers are known
abbrev AreKnown : (known list : List FunctionSignature) → Type 0
AreKnown known list = (number : ℕ) (signature : FunctionSignature) → slice_get list number ≡ Some signature → Contains known signature

arguments_counted : (count : ℕ) (found : Option FunctionSignature) (signature : FunctionSignature) → of_arguments count found ≡ Some signature
    → (found ≡ Some signature) × (count ≡ length signature.parameters)
arguments_counted count None signature e = absurd (cc)
arguments_counted count (Some s) signature e =
    elim (length s.parameters == count) as (λ (same : Bool). (length s.parameters == count) ≡ same → (if same then Some s else None) ≡ Some signature → (Some s ≡ Some signature) × (count ≡ length signature.parameters)) [
      | true ↦ λ h f. (f, let same : s ≡ signature = cc in subst (λ (t : FunctionSignature). count ≡ length t.parameters) same (sym (eqb-true (length s.parameters) count h)))
      | false ↦ λ h f. absurd (cc)
    ] refl e

numbered_known : (known list : List FunctionSignature) (count : ℕ) (signature : FunctionSignature) (number : Option ℕ) → AreKnown known list
    → numbered_signature list count number ≡ Some signature → Contains known signature × (count ≡ length signature.parameters)
numbered_known known list count signature None all e = absurd (cc)
numbered_known known list count signature (Some number) all e =
    let h = arguments_counted count (slice_get list number) signature e in (all number signature h.0, h.1)

module _ (known : List FunctionSignature) (signatures : Signatures) (all : AreKnown known signatures.list) where
  -- ---- constructs over well-formed parts

  abbrev KeepsOne : (CoreExpression → CoreExpression) → Type 0
  KeepsOne make = (e : CoreExpression) → IsWellFormedExpression known e → IsWellFormedExpression known (make e)

  abbrev KeepsTwo : (CoreExpression → CoreExpression → CoreExpression) → Type 0
  KeepsTwo make = (a b : CoreExpression) → IsWellFormedExpression known a → IsWellFormedExpression known b → IsWellFormedExpression known (make a b)

  abbrev AreWellFormed : List CoreExpression → Type 0
  AreWellFormed [] = Unit {0}
  AreWellFormed (e ∷ es) = IsWellFormedExpression known e × AreWellFormed es

  within_formed : (place : Place) → KeepsOne (within place)
  within_formed place (At own outer tt operator parts) h = h

  number_is_literal : (value : Number) → IsCoreLiteral (number_atom value)
  number_is_literal (Int i) = refl
  number_is_literal (Dec units) = refl

  signed_formed : (place : Place) (minus : Bool) → KeepsOne (signed_at place minus)
  signed_formed place true e h = (tt, ((tt, (h, tt)), tt))
  signed_formed place false e h = (tt, ((tt, (h, tt)), ((refl, tt), tt)))

  boolean_formed : KeepsOne boolean_around
  boolean_formed e h = (record { not_data = λ c. cc; not_position = λ c. cc; not_last = λ c. cc; all = refl }, (h, tt))

  conditional_formed : (place : Place) (a b c : CoreExpression) → IsWellFormedExpression known a → IsWellFormedExpression known b → IsWellFormedExpression known c → IsWellFormedExpression known (conditional_at place a b c)
  conditional_formed place a b c h k l = (tt, (boolean_formed a h, (k, (l, tt))))

  and_formed : (place : Place) → KeepsTwo (and_at place)
  and_formed place a b h k = (tt, (boolean_formed a h, (boolean_formed b k, ((record { not_data = λ c. cc; not_position = λ c. cc; not_last = λ c. cc; all = refl }, tt), tt))))

  or_formed : (place : Place) → KeepsTwo (or_at place)
  or_formed place a b h k = (tt, (boolean_formed a h, ((record { not_data = λ c. cc; not_position = λ c. cc; not_last = λ c. cc; all = refl }, tt), (boolean_formed b k, tt))))

  one_formed : (place : Place) (make : CoreExpression → CoreExpression) → KeepsOne make → (es : List CoreExpression) → AreWellFormed es → IsWellFormedExpression known (of_one place make es)
  one_formed place make f [] h = (tt, tt)
  one_formed place make f (a ∷ []) h = f a h.0
  one_formed place make f (a ∷ b ∷ es) h = (tt, tt)

  two_formed : (place : Place) (make : CoreExpression → CoreExpression → CoreExpression) → KeepsTwo make → (es : List CoreExpression) → AreWellFormed es → IsWellFormedExpression known (of_two place make es)
  two_formed place make f [] h = (tt, tt)
  two_formed place make f (a ∷ []) h = (tt, tt)
  two_formed place make f (a ∷ b ∷ []) h = f a b h.0 h.1.0
  two_formed place make f (a ∷ b ∷ c ∷ es) h = (tt, tt)

  three_formed : (place : Place) (es : List CoreExpression) → AreWellFormed es → IsWellFormedExpression known (of_three place (conditional_at place) es)
  three_formed place [] h = (tt, tt)
  three_formed place (a ∷ []) h = (tt, tt)
  three_formed place (a ∷ b ∷ []) h = (tt, tt)
  three_formed place (a ∷ b ∷ c ∷ []) h = conditional_formed place a b c h.0 h.1.0 h.1.1.0
  three_formed place (a ∷ b ∷ c ∷ d ∷ es) h = (tt, tt)

  operand_formed : (class : BinaryClass) → KeepsOne (operand_of class)
  operand_formed (Nodes op) e h = h
  operand_formed (Combination op) e h = h
  operand_formed _ e h = (tt, (h, tt))

  joined_formed : (place : Place) (found : Option BinaryOp) (es : List CoreExpression) → AreWellFormed es → IsWellFormedExpression known (joined_at place (joined_by place found) es)
  joined_formed place None es h = (tt, tt)
  joined_formed place (Some op) es h = two_formed place (operator_at place op) (λ a b k l. (tt, (operand_formed (class_of op) a k, (operand_formed (class_of op) b l, tt)))) es h

  joining_formed : (place : Place) (o : BinaryOperator) (es : List CoreExpression) → AreWellFormed es → IsWellFormedExpression known (joined_at place (joining place o) es)
  joining_formed place operator.And es h = two_formed place (and_at place) (and_formed place) es h
  joining_formed place operator.Or es h = two_formed place (or_at place) (or_formed place) es h
  joining_formed place o es h = joined_formed place (operator_in_core o) es h

  -- ---- calls

  all_formed : (es : List CoreExpression) → AreWellFormed es → ArePartsWellFormed known (all_parts es)
  all_formed [] h = tt
  all_formed (e ∷ es) h = (h.0, all_formed es h.1)

  number_of_all : (es : List CoreExpression) → number_of_parts (all_parts es) ≡ length es
  number_of_all [] = refl
  number_of_all (e ∷ es) = let h : number_of_parts (all_parts es) ≡ length es = number_of_all es in omega (arith, h)

  counted_formed : (place : Place) (function : Function) (es : List CoreExpression)
      → (function ≡ functions.Data → ⊥) → (function ≡ functions.Position → ⊥) → (function ≡ functions.Last → ⊥) → AreWellFormed es → IsWellFormedExpression known (counted_call place function es)
  counted_formed place function es not_data position last h = by (length es == arity_of function) refl
    where
      by : (b : Bool) → (length es == arity_of function) ≡ b → IsWellFormedExpression known (if b then call_at place function (all_parts es) else empty_at place)
      by true e = (record { not_data = not_data; not_position = position; not_last = last; all = number_of_all es ∙ eqb-true (length es) (arity_of function) e }, all_formed es h)
      by false e = (tt, tt)

  call_formed : (place : Place) (function : Function) (es : List CoreExpression) → AreWellFormed es → IsWellFormedExpression known (call_of place function es)
  call_formed place functions.Data es h = one_formed place (data_at place) (λ e k. (tt, (k, tt))) es h
  call_formed place functions.Position es h = (tt, tt)
  call_formed place functions.Last es h = (tt, tt)
  call_formed place function es h = counted_formed place function es (λ e. cc) (λ e. cc) (λ e. cc) h

  -- ---- types

  instance_formed : (place : Place) (kind : SequenceType) → KeepsOne (instance_at place kind)
  instance_formed place kind e h = (
    refl,
    (
      h,
      (
        (record { not_data = λ c. cc; not_position = λ c. cc; not_last = λ c. cc; all = refl }, tt),
        ((record { not_data = λ c. cc; not_position = λ c. cc; not_last = λ c. cc; all = refl }, tt), tt),
      ),
    ),
  )

  case_in_front_formed : (place : Place) → KeepsTwo (case_in_front place)
  case_in_front_formed place (At there outer tt (operators.Switch (case ∷ more) number) (a_part nothing (a_part body others))) (At behind other unit (operators.Switch cases default) (a_part none branches)) h k =
      let n : 1 + number_of_parts branches ≡ 2 + length cases = k.0 in
      (omega (arith, n), (h.1.0, (h.1.1.0, k.1.1)))
  case_in_front_formed place (At there outer tt operator parts) (At behind other unit another others) h k = (tt, tt)

  branches_formed : (place : Place) (es : List CoreExpression) → AreWellFormed es → IsWellFormedExpression known (branches_joined place es)
  branches_formed place [] h = (tt, tt)
  branches_formed place (a ∷ []) h = h.0
  branches_formed place (a ∷ b ∷ es) h = case_in_front_formed place a (branches_joined place (b ∷ es)) h.0 (branches_formed place (b ∷ es) h.1)

  over_operand_formed : (place : Place) → KeepsTwo (over_operand place)
  over_operand_formed place operand (At there outer tt (operators.Switch cases default) (a_part nothing branches)) h k = (k.0, (h, k.1.1))
  over_operand_formed place operand (At there outer tt operator parts) h k = (tt, tt)

  typeswitch_formed : (place : Place) (es : List CoreExpression) → AreWellFormed es → IsWellFormedExpression known (typeswitch_at place es)
  typeswitch_formed place [] h = (tt, tt)
  typeswitch_formed place (operand ∷ branches) h = over_operand_formed place operand (branches_joined place branches) h.0 (branches_formed place branches h.1)

  branch_formed : (place : Place) (construct : Construct) (free : ℕ) (body : CoreExpression) → IsWellFormedExpression known body → IsWellFormedExpression known (branch_at place construct free body)
  branch_formed place (written.Case bound kind) free body h = (refl, ((tt, tt), (h, ((tt, tt), tt))))
  branch_formed place (written.Default bound) free body h = (refl, ((tt, tt), (h, tt)))
  branch_formed place _ free body h = (tt, tt)

  user_call_formed : (place : Place) (found : Option FunctionSignature) (es : List CoreExpression)
      → ((signature : FunctionSignature) → found ≡ Some signature → Contains known signature × (length es ≡ length signature.parameters)) → AreWellFormed es
      → IsWellFormedExpression known (user_call_at place found es)
  user_call_formed place None es k h = (tt, tt)
  user_call_formed place (Some signature) es k h = (k signature refl, all_formed es h)

  -- ---- trees

  constructed_formed : (place : Place) (construct : Construct) (es : List CoreExpression) → AreWellFormed es → IsWellFormedExpression known (constructed signatures place construct es)
  constructed_formed place (written.Number value) es h = (number_is_literal value, tt)
  constructed_formed place (written.String characters) es h = (refl, tt)
  constructed_formed place written.Parenthesised es h = one_formed place (within place) (within_formed place) es h
  constructed_formed place (written.CallDeclared name) es h =
      user_call_formed place (signature_called signatures name (length es)) es
      (λ signature e. numbered_known known signatures.list (length es) signature (innermost_value same_function signatures.numbers (record { name = name; arity = length es })) all e) h
  constructed_formed place (written.Call function) es h = call_formed place function es h
  constructed_formed place written.Sequence es h = two_formed place core_sequence (λ a b k l. (tt, (k, (l, tt)))) es h
  constructed_formed place written.If es h = three_formed place es h
  constructed_formed place (written.Binary o) es h = joining_formed place o es h
  constructed_formed place (written.CastableAs kind optional) es h = one_formed place (castable_at place kind optional) (λ e k. (tt, ((tt, (k, tt)), tt))) es h
  constructed_formed place (written.InstanceOf kind) es h = one_formed place (instance_at place kind) (instance_formed place kind) es h
  constructed_formed place (written.TreatAs kind) es h = one_formed place (treat_at place kind) (λ e k. (tt, (k, tt))) es h
  constructed_formed place written.Typeswitch es h = typeswitch_formed place es h
  constructed_formed place (written.CastAs kind optional) es h = one_formed place (cast_at place kind optional) (λ e k. (tt, ((tt, (k, tt)), tt))) es h
  constructed_formed place (written.Signed minus) es h = one_formed place (signed_at place minus) (signed_formed place minus) es h
  constructed_formed place written.Document es h = (tt, all_formed es h)
  constructed_formed place written.TextNode es h = (tt, all_formed es h)
  constructed_formed place (written.Element name) es h = (tt, all_formed es h)
  constructed_formed place (written.Attribute name) es h = (tt, all_formed es h)
  constructed_formed place (written.DirectElement name) es h = (tt, all_formed es h)
  constructed_formed place (written.DirectAttribute name) es h = (tt, all_formed es h)
  constructed_formed place (written.Blank characters) es h = (refl, tt)
  constructed_formed place _ es h = (tt, tt)

  variable_formed : (place : Place) (found : Option ℕ) → IsWellFormedExpression known (variable_at place found)
  variable_formed place None = (tt, tt)
  variable_formed place (Some number) = (tt, tt)

  context_formed : (place : Place) (found : Option ℕ) → IsWellFormedExpression known (context_item_at place found)
  context_formed place None = (tt, tt)
  context_formed place (Some number) = (tt, tt)

  step_formed : (place : Place) (found : Option ℕ) (axis : Axis) (of_test : Test) → IsWellFormedExpression known (step_at place found axis of_test)
  step_formed place None axis of_test = (tt, tt)
  step_formed place (Some number) axis of_test = (tt, tt)

  -- ---- contexts and predicates

  ordered_formed : (ordered : Bool) (place : Place) → KeepsOne (ordered_if ordered place)
  ordered_formed true place e h = (tt, (h, tt))
  ordered_formed false place e h = h

  size_formed : (place : Place) (free : ℕ) → KeepsTwo (with_size place free)
  size_formed place free source body h k =
      (tt, (h, ((tt, ((record { not_data = λ c. cc; not_position = λ c. cc; not_last = λ c. cc; all = refl }, ((tt, tt), tt)), (k, tt))), tt)))

  for_formed : (place : Place) (number position : ℕ) → KeepsTwo (hidden_for place number position)
  for_formed place number position source body h k = (tt, (h, (k, tt)))

  loop_formed : (use' : ContextUse) (ordered : Bool) (place : Place) (free : ℕ) → KeepsTwo (loop_at use' ordered place free)
  loop_formed uses.Item ordered place free source body h k = ordered_formed ordered place (hidden_for place free 0 source body) (for_formed place free 0 source body h k)
  loop_formed uses.Position ordered place free source body h k = ordered_formed ordered place (hidden_for place free (free + 1) source body) (for_formed place free (free + 1) source body h k)
  loop_formed uses.Size ordered place free source body h k =
      let each : CoreExpression = hidden_for place (free + 2) 0 (hidden_variable place free) body in
      size_formed place free source (ordered_if ordered place each) h (ordered_formed ordered place each (for_formed place (free + 2) 0 (hidden_variable place free) body (tt, tt) k))
  loop_formed uses.PositionAndSize ordered place free source body h k =
      let each : CoreExpression = hidden_for place (free + 2) (free + 3) (hidden_variable place free) body in
      size_formed place free source (ordered_if ordered place each) h (ordered_formed ordered place each (for_formed place (free + 2) (free + 3) (hidden_variable place free) body (tt, tt) k))
  loop_formed uses.Backwards ordered place free source body h k =
      let turned : CoreExpression = hidden_let place (free + 4) (position_from_end place (free + 1) (free + 3)) body in
      let each : CoreExpression = hidden_for place (free + 2) (free + 3) (hidden_variable place free) turned in
      size_formed place free source (ordered_if ordered place each) h (ordered_formed ordered place each (for_formed place (free + 2) (free + 3) (hidden_variable place free) turned (tt, tt)
      (tt, ((tt, ((tt, ((tt, tt), ((tt, tt), tt))), ((refl, tt), tt))), (k, tt)))))

  kept_formed : (place : Place) (focus : ContextNumbers) (free : ℕ) → KeepsOne (kept_at place focus free)
  kept_formed place focus free condition h =
      let tested : IsWellFormedExpression known (position_is place focus free) = (tt, ((tt, tt), (context_formed place focus.position, tt))) in
      let truth : IsWellFormedExpression known (call_at place functions.Boolean (one_part (hidden_variable place (free + 1)))) =
      (record { not_data = λ c. cc; not_position = λ c. cc; not_last = λ c. cc; all = refl }, ((tt, tt), tt)) in
      (tt, ((refl, (h, (tested, (truth, tt)))), (context_formed place focus.item, ((tt, tt), tt))))

  filtered_by_formed : (predicate : Predicate) (reverse : Bool) (use' : ContextUse) (place : Place) (free : ℕ) (e : CoreExpression) (condition : CoreExpression × ℕ)
      → IsWellFormedExpression known e → IsWellFormedExpression known condition.0 → IsWellFormedExpression known (filtered_by predicate reverse use' place free e condition).0
  filtered_by_formed (predicates.Numbered number) reverse use' place free e condition h k = (tt, (h, tt))
  filtered_by_formed predicates.Last reverse use' place free e condition h k = (tt, (h, tt))
  filtered_by_formed predicates.Condition reverse use' place free e condition h k =
      loop_formed use' false place free e (kept_at (outer_of condition.0) (context_numbers use' free) condition.1 condition.0) h
      (kept_formed (outer_of condition.0) (context_numbers use' free) condition.1 condition.0 k)

  abbrev IsFormed : CoreExpression × ℕ → Type 0
  IsFormed made = IsWellFormedExpression known made.0

  left_formed : (descendants : Bool) (place : Place) (left : CoreExpression × ℕ) → IsFormed left → IsFormed (left_of_path descendants place left)
  left_formed false place left h = h
  left_formed true place left h = (tt, ((tt, ((tt, (h, tt)), ((tt, tt), tt))), tt))

  construct_formed : (place : Place) (construct : Construct) (numbers : Numbers) (focus : Focus) (free : ℕ) (parts : List CoreExpression × ℕ) (clauses path filtered : CoreExpression × ℕ)
      → AreWellFormed parts.0 → IsFormed clauses → IsFormed path → IsFormed filtered → IsFormed (construct_core signatures place construct numbers focus free parts clauses path filtered)
  construct_formed place (written.Variable name binder) numbers focus free parts clauses path filtered h k l m = variable_formed place (number_at numbers binder)
  construct_formed place written.Context numbers focus free parts clauses path filtered h k l m = context_formed place focus.context.item
  construct_formed place (written.Call functions.Position) numbers focus free parts clauses path filtered h k l m = context_formed place focus.context.position
  construct_formed place (written.Call functions.Last) numbers focus free parts clauses path filtered h k l m = context_formed place focus.context.size
  construct_formed place (written.Step axis asks) numbers focus free parts clauses path filtered h k l m = step_formed place focus.context.item axis asks
  construct_formed place written.ParentStep numbers focus free parts clauses path filtered h k l m = step_formed place focus.context.item axes.Parent tests.Node
  construct_formed place written.Flwor numbers focus free parts clauses path filtered h k l m = k
  construct_formed place (written.Quantified every) numbers focus free parts clauses path filtered h k l m = k
  construct_formed place (written.Path descendants) numbers focus free parts clauses path filtered h k l m = l
  construct_formed place written.Filtered numbers focus free parts clauses path filtered h k l m = m
  construct_formed place construct numbers focus free parts clauses path filtered h k l m = constructed_formed place construct parts.0 h

  -- ---- a clause in front of a block

  clause_in_front_formed : (place : Place) (kind : ClauseKind) (part block : CoreExpression) → IsWellFormedExpression known part → IsWellFormedExpression known block → IsWellFormedExpression known (clause_in_front place kind part block)
  clause_in_front_formed place kind part (At there outer tt (operators.Block kinds orders) parts) h k = (tt, (h, k.1))
  clause_in_front_formed place kind part (At there outer tt operator parts) h k = (tt, tt)

  key_in_front_formed : (place : Place) (order : KeyOrder) (part block : CoreExpression) → IsWellFormedExpression known part → IsWellFormedExpression known block → IsWellFormedExpression known (key_in_front place order part block)
  key_in_front_formed place order part (At there outer tt (operators.Block [] orders) parts) h k = (tt, (h, k.1))
  key_in_front_formed place order part (At there outer tt operator parts) h k = (tt, tt)

  branch_or_formed : (construct : Construct) (branch other : CoreExpression × ℕ) → IsFormed branch → IsFormed other → IsFormed (branch_or construct branch other)
  branch_or_formed (written.Case bound kind) branch other h k = h
  branch_or_formed (written.Default bound) branch other h k = h
  branch_or_formed construct branch other h k = k

  parts_with_formed : (stays : Bool) (e : CoreExpression × ℕ) (others : ℕ → List CoreExpression × ℕ) (free : ℕ) → IsFormed e → ((n : ℕ) → AreWellFormed (others n).0)
      → AreWellFormed (parts_with stays e others free).0
  parts_with_formed true e others free h k = (h, k e.1)
  parts_with_formed false e others free h k = k free

  mutual
    core_formed : (tree : ResolvedTree) (numbers : Numbers) (focus : Focus) (free : ℕ) → IsFormed (core_of signatures tree numbers focus free)
    core_formed (resolved_at place construct parts) numbers focus free =
        branch_or_formed construct (branch_core signatures place construct parts numbers focus free)
        (construct_core signatures place construct numbers focus free (cores_of signatures parts numbers focus free) (clauses_core signatures (ending_of_clauses construct parts focus.greatest) place parts numbers focus free) (path_core signatures (is_to_descendants construct) place parts numbers focus free) (predicates_core signatures place parts numbers focus free))
        (branch_core_formed place construct parts numbers focus free)
        (construct_formed place construct numbers focus free (cores_of signatures parts numbers focus free) (clauses_core signatures (ending_of_clauses construct parts focus.greatest) place parts numbers focus free) (path_core signatures (is_to_descendants construct) place parts numbers focus free) (predicates_core signatures place parts numbers focus free)
        (cores_formed parts numbers focus free) (clauses_formed (ending_of_clauses construct parts focus.greatest) place parts numbers focus free) (path_formed (is_to_descendants construct) place parts numbers focus free)
        (predicates_formed place parts numbers focus free))

    cores_formed : (parts : ResolvedTrees) (numbers : Numbers) (focus : Focus) (free : ℕ) → AreWellFormed (cores_of signatures parts numbers focus free).0
    cores_formed no_resolved numbers focus free = tt
    cores_formed (a_resolved first others) numbers focus free =
        parts_with_formed (is_kept_part focus first) (core_of signatures first numbers focus free) (cores_of signatures others numbers focus) free (core_formed first numbers focus free) (λ n. cores_formed others numbers focus n)

    clauses_formed : (ending : Ending) (place : Place) (parts : ResolvedTrees) (numbers : Numbers) (focus : Focus) (free : ℕ) → IsFormed (clauses_core signatures ending place parts numbers focus free)
    clauses_formed ending place no_resolved numbers focus free = (tt, tt)
    clauses_formed (Sorted greatest) place (a_resolved (resolved_at there (written.For bound None) (a_resolved source more)) others) numbers focus free =
        let middle = (core_of signatures source numbers focus free).1 in
        let inner : Numbers = (bound.place, middle) ∷ numbers in
        clause_in_front_formed place (kinds.For (numbered_binder bound middle) 0) (core_of signatures source numbers focus free).0 (clauses_core signatures (Sorted greatest) place others inner focus (middle + 1)).0 (core_formed source numbers focus free)
        (clauses_formed (Sorted greatest) place others inner focus (middle + 1))
    clauses_formed (Sorted greatest) place (a_resolved (resolved_at there (written.For bound (Some position)) (a_resolved source more)) others) numbers focus free =
        let middle = (core_of signatures source numbers focus free).1 in
        let inner : Numbers = (position.place, middle + 1) ∷ (bound.place, middle) ∷ numbers in
        clause_in_front_formed place (kinds.For (numbered_binder bound middle) (middle + 1)) (core_of signatures source numbers focus free).0 (clauses_core signatures (Sorted greatest) place others inner focus (middle + 2)).0 (core_formed source numbers focus free)
        (clauses_formed (Sorted greatest) place others inner focus (middle + 2))
    clauses_formed (Sorted greatest) place (a_resolved (resolved_at there (written.Let bound) (a_resolved value more)) others) numbers focus free =
        let middle = (core_of signatures value numbers focus free).1 in
        let inner : Numbers = (bound.place, middle) ∷ numbers in
        clause_in_front_formed place (kinds.Let (numbered_binder bound middle)) (core_of signatures value numbers focus free).0 (clauses_core signatures (Sorted greatest) place others inner focus (middle + 1)).0 (core_formed value numbers focus free)
        (clauses_formed (Sorted greatest) place others inner focus (middle + 1))
    clauses_formed (Sorted greatest) place (a_resolved (resolved_at there written.Where (a_resolved condition more)) others) numbers focus free =
        let middle = (core_of signatures condition numbers focus free).1 in
        clause_in_front_formed place kinds.Where (boolean_around (core_of signatures condition numbers focus free).0) (clauses_core signatures (Sorted greatest) place others numbers focus middle).0
        (boolean_formed (core_of signatures condition numbers focus free).0 (core_formed condition numbers focus free)) (clauses_formed (Sorted greatest) place others numbers focus middle)
    clauses_formed (Sorted greatest) place (a_resolved (resolved_at there (written.Key order) (a_resolved key more)) others) numbers focus free =
        let middle = (core_of signatures key numbers focus free).1 in
        key_in_front_formed place (key_order greatest order) (data_around (core_of signatures key numbers focus free).0) (clauses_core signatures (Sorted greatest) place others numbers focus middle).0
        (tt, (core_formed key numbers focus free, tt)) (clauses_formed (Sorted greatest) place others numbers focus middle)
    clauses_formed ending place (a_resolved (resolved_at there (written.Key order) (a_resolved key more)) others) numbers focus free = (tt, tt)
    clauses_formed ending place (a_resolved (resolved_at there (written.For bound None) (a_resolved source more)) others) numbers focus free =
        let middle = (core_of signatures source numbers focus free).1 in
        (tt, (core_formed source numbers focus free, (clauses_formed ending place others ((bound.place, middle) ∷ numbers) focus (middle + 1), tt)))
    clauses_formed ending place (a_resolved (resolved_at there (written.For bound (Some position)) (a_resolved source more)) others) numbers focus free =
        let middle = (core_of signatures source numbers focus free).1 in
        (tt, (core_formed source numbers focus free, (clauses_formed ending place others ((position.place, middle + 1) ∷ (bound.place, middle) ∷ numbers) focus (middle + 2), tt)))
    clauses_formed ending place (a_resolved (resolved_at there (written.Let bound) (a_resolved value more)) others) numbers focus free =
        let middle = (core_of signatures value numbers focus free).1 in
        (tt, (core_formed value numbers focus free, (clauses_formed ending place others ((bound.place, middle) ∷ numbers) focus (middle + 1), tt)))
    clauses_formed ending place (a_resolved (resolved_at there written.Where (a_resolved condition more)) others) numbers focus free =
        let middle = (core_of signatures condition numbers focus free).1 in
        conditional_formed place (core_of signatures condition numbers focus free).0 (clauses_core signatures ending place others numbers focus middle).0 (empty_at place) (core_formed condition numbers focus free)
        (clauses_formed ending place others numbers focus middle) (tt, tt)
    clauses_formed Returned place (a_resolved (resolved_at there (written.In bound) (a_resolved source more)) others) numbers focus free = (tt, tt)
    clauses_formed (Sorted greatest) place (a_resolved (resolved_at there (written.In bound) (a_resolved source more)) others) numbers focus free = (tt, tt)
    clauses_formed (Condition true) place (a_resolved (resolved_at there (written.In bound) (a_resolved source more)) others) numbers focus free =
        let middle = (core_of signatures source numbers focus free).1 in
        (tt, (core_formed source numbers focus free, (clauses_formed (Condition true) place others ((bound.place, middle) ∷ numbers) focus (middle + 1), tt)))
    clauses_formed (Condition false) place (a_resolved (resolved_at there (written.In bound) (a_resolved source more)) others) numbers focus free =
        let middle = (core_of signatures source numbers focus free).1 in
        (tt, (core_formed source numbers focus free, (clauses_formed (Condition false) place others ((bound.place, middle) ∷ numbers) focus (middle + 1), tt)))
    clauses_formed Returned place (a_resolved last others) numbers focus free = core_formed last numbers focus free
    clauses_formed (Sorted greatest) place (a_resolved last others) numbers focus free = (tt, (core_formed last numbers focus free, tt))
    clauses_formed (Condition every) place (a_resolved last others) numbers focus free = boolean_formed (core_of signatures last numbers focus free).0 (core_formed last numbers focus free)

    branch_core_formed : (place : Place) (construct : Construct) (parts : ResolvedTrees) (numbers : Numbers) (focus : Focus) (free : ℕ) → IsFormed (branch_core signatures place construct parts numbers focus free)
    branch_core_formed place construct (a_resolved body no_resolved) numbers focus free =
        let b = core_of signatures body (clause_numbers construct free ++ numbers) focus (behind_clause construct free) in
        branch_formed place construct free b.0 (core_formed body (clause_numbers construct free ++ numbers) focus (behind_clause construct free))
    branch_core_formed place construct _ numbers focus free = (tt, tt)

    path_formed : (descendants : Bool) (place : Place) (parts : ResolvedTrees) (numbers : Numbers) (focus : Focus) (free : ℕ) → IsFormed (path_core signatures descendants place parts numbers focus free)
    path_formed descendants place (a_resolved first (a_resolved second no_resolved)) numbers focus free =
        let a = left_of_path descendants place (core_of signatures first numbers focus free) in
        let use' = path_use (asks_context asked.Position second) (asks_context asked.Last second) in
        let b = core_of signatures second numbers (focus_with focus use' a.1) (behind_context use' a.1) in
        loop_formed use' true place a.1 (nodes_at place a.0) b.0 (tt, (left_formed descendants place (core_of signatures first numbers focus free) (core_formed first numbers focus free), tt))
        (core_formed second numbers (focus_with focus use' a.1) (behind_context use' a.1))
    path_formed descendants place _ numbers focus free = (tt, tt)

    predicates_formed : (place : Place) (parts : ResolvedTrees) (numbers : Numbers) (focus : Focus) (free : ℕ) → IsFormed (predicates_core signatures place parts numbers focus free)
    predicates_formed place no_resolved numbers focus free = (tt, tt)
    predicates_formed place (a_resolved operand predicates) numbers focus free =
        let e = core_of signatures operand numbers focus free in
        filtered_formed (is_reverse_step operand) place e.0 predicates numbers focus e.1 (core_formed operand numbers focus free)

    filtered_formed : (reverse : Bool) (place : Place) (e : CoreExpression) (predicates : ResolvedTrees) (numbers : Numbers) (focus : Focus) (free : ℕ) → IsWellFormedExpression known e
        → IsFormed (filtered_core signatures reverse place e predicates numbers focus free)
    filtered_formed reverse place e no_resolved numbers focus free h = h
    filtered_formed reverse place e (a_resolved predicate others) numbers focus free h =
        let use' = predicate_use reverse (asks_context asked.Last predicate) in
        let condition = core_of signatures predicate numbers (focus_with focus use' free) (behind_context use' free) in
        let f = filtered_by (predicate_of predicate) reverse use' place free e condition in
        filtered_formed reverse place f.0 others numbers focus f.1
        (filtered_by_formed (predicate_of predicate) reverse use' place free e condition h (core_formed predicate numbers (focus_with focus use' free) (behind_context use' free)))

  -- ---- whole queries

  values_formed : (greatest blanks : Bool) (ds : List Declaration) (numbers : Numbers) (free : ℕ) → AreValuesWellFormed known (declarations_of signatures (no_focus greatest blanks) ds numbers free)
  values_formed greatest blanks [] numbers free = tt
  values_formed greatest blanks (declared.Global g ∷ ds) numbers free =
      let middle = (core_of signatures g.value numbers (no_focus greatest blanks) free).1 in
      (core_formed g.value numbers (no_focus greatest blanks) free, values_formed greatest blanks ds ((g.bound.place, middle) ∷ numbers) (middle + 1))
  values_formed greatest blanks (declared.External e ∷ ds) numbers free = values_formed greatest blanks ds ((e.bound.place, free) ∷ numbers) (free + 1)
  values_formed greatest blanks (declared.Function f ∷ ds) numbers free =
      let b = function_core signatures f numbers (no_focus greatest blanks) free in
      (core_formed f.body (inside_parameters f.parameters free numbers) (no_focus greatest blanks) (free + length f.parameters), values_formed greatest blanks ds numbers b.1)

-- ---- the signatures of a query

parameters_typed : (parameters : List BoundName) (free : ℕ) → map type_of_parameter (parameter_binders parameters free) ≡ map (λ (parameter : BoundName). type_or_items parameter.kind) parameters
parameters_typed [] free = refl
parameters_typed (p ∷ parameters) free = ap (λ (ts : List SequenceType). type_or_items p.kind ∷ ts) (parameters_typed parameters (free + 1))

-- those of the functions of Core are those that are written
signatures_are : (signatures : Signatures) (greatest blanks : Bool) (ds : List Declaration) (numbers : Numbers) (free number : ℕ)
    → signatures_from number (functions_of (declarations_of signatures (no_focus greatest blanks) ds numbers free)) ≡ signatures_written number ds
signatures_are signatures greatest blanks [] numbers free number = refl
signatures_are signatures greatest blanks (declared.Global g ∷ ds) numbers free number =
    let middle = (core_of signatures g.value numbers (no_focus greatest blanks) free).1 in
    signatures_are signatures greatest blanks ds ((g.bound.place, middle) ∷ numbers) (middle + 1) number
signatures_are signatures greatest blanks (declared.External e ∷ ds) numbers free number =
    signatures_are signatures greatest blanks ds ((e.bound.place, free) ∷ numbers) (free + 1) number
signatures_are signatures greatest blanks (declared.Function f ∷ ds) numbers free number =
    let b = function_core signatures f numbers (no_focus greatest blanks) free in
    ap (λ (ts : List SequenceType). record { number = number; name = f.name; parameters = ts; result = type_or_items f.result } ∷ signatures_from (suc number) (functions_of (declarations_of signatures (no_focus greatest blanks) ds numbers b.1)))
    (parameters_typed f.parameters free)
    ∙ ap (λ (ss : List FunctionSignature). signature_written number f ∷ ss) (signatures_are signatures greatest blanks ds numbers b.1 (suc number))

found_contained : (list : List FunctionSignature) (number : ℕ) (signature : FunctionSignature) → slice_get list number ≡ Some signature → Contains list signature
found_contained list number signature e =
    subst (λ (s : FunctionSignature). Contains list s) (get_or_from_slice_get list number signature signature e) (Contains-get_or list number signature (slice_get_within list number signature e))

pub query_formed : (greatest blanks : Bool) (ds : List Declaration) (tree : ResolvedTree) → IsWellFormedQuery (main_core (signatures_of ds) (no_focus greatest blanks) ds tree)
query_formed greatest blanks ds tree =
    let signatures : Signatures = signatures_of ds in
    let behind = behind_declarations signatures (no_focus greatest blanks) ds [] 1 in
    let known : List FunctionSignature = signatures_from 0 (functions_of (declarations_of signatures (no_focus greatest blanks) ds [] 1)) in
    let all : AreKnown known signatures.list =
    λ number signature e. subst (λ (list : List FunctionSignature). Contains list signature) (sym (signatures_are signatures greatest blanks ds [] 1 0)) (found_contained signatures.list number signature e) in
    record { values = values_formed known signatures all greatest blanks ds [] 1; body = core_formed known signatures all tree behind.0 (no_focus greatest blanks) behind.1 }

pub made_well_formed : {E : Type 0} (greatest blanks : Bool) (ds : List Declaration) (tree : ResolvedTree) (made : Result Core E) → IfOk made (λ core. core ≡ main_core (signatures_of ds) (no_focus greatest blanks) ds tree) → IfOk made (λ core. IsWellFormedQuery core)
made_well_formed greatest blanks ds tree (Ok core) h = subst (λ (c : Core). IsWellFormedQuery c) (sym h) (query_formed greatest blanks ds tree)
made_well_formed greatest blanks ds tree (Err error) h = tt

pub made_calls : {E : Type 0} (greatest blanks : Bool) (ds : List Declaration) (tree : ResolvedTree) (made : Result Core E) → IfOk made (λ core. core ≡ main_core (signatures_of ds) (no_focus greatest blanks) ds tree) → IfOk made (λ core. CallsDeclaredFunctions core)
made_calls greatest blanks ds tree (Ok core) h = well_formed_queries_call_declared_functions core (subst (λ (c : Core). IsWellFormedQuery c) (sym h) (query_formed greatest blanks ds tree))
made_calls greatest blanks ds tree (Err error) h = tt
