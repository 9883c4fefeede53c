-- No variable of a compiled query has number 0, where the query binds none of that number.
use Rattle.std.proofs.Common.{◌≡◌, ◌≢◌, ℕ, zero, suc, ◌+◌, Bool, true, false, List, [], ◌∷◌, ◌++◌, map, Option, None, Some, refl, sym, ◌∙◌, ap, subst, append_assoc, if◌then◌else◌}
use Rattle.std.proofs.lemmas.Bool.{ne_eqb}
use Rattle.gx_base.specs.declared.code.Code.TheVariants.{XPTY0004}
use Rattle.gx_base.specs.declared.type_name.Builtin.TheVariants.{Integer}
use Rattle.gx_sorting.specs.declared.keys.KeyOrder.{KeyOrder}
use Rattle.gx_types.specs.Occurs.{Occurs}
use Rattle.gx_types.specs.SchemaSet.{SchemaSet}
use Rattle.gx_types.specs.SequenceType.{SequenceType}
use Rattle.gx_types.specs.Prime.{prime_of}
use Rattle.gx_core.specs.declared.cases.TypeCase.{TypeCase}
use Rattle.gx_core.specs.declared.expression.Binder.{Binder}
use Rattle.gx_core.specs.declared.expression.Declaration.TheVariants.{Global, Function}
use Rattle.gx_core.specs.declared.operator.ClauseKind.{ClauseKind}
use Rattle.gx_core.specs.declared.operator.ClauseKind.TheVariants as kinds
use Rattle.gx_core.specs.declared.operator.Operator.{Operator}
use Rattle.gx_core.specs.declared.operator.Operator.TheVariants as operators
use Rattle.gx_core.specs.Queries.{TypedCore, TypedDeclaration}
use Rattle.gx_core.specs.Expression.{At, Parts, no_parts, a_part, annotation_of, plain}
use Rattle.gx_core.specs.Bindings.{Types, look_up, position_bound, position_numbers, clause_types_bound, clause_numbers_bound, block_types_bound, block_numbers_new, types_bound, numbers_new_in}
use Rattle.gx_core.specs.Invariant.{parameter_numbers, numbers_bound, numbers_bound_in, declared_numbers, HasQueryVariablesInOrder}
use Rattle.gx_core.specs.CalledFunctions.{type_of_parameter}
use Rattle.gx_core.specs.QueryMeaning.{plain_declaration, plain_query, global_types, types_declared, external_types, parameter_types}
use Rattle.gx_core.specs.Soundness.{TypedExpression}
use Rattle.gx_static.specs.Rule.{atomic, Ruling, has_type, has_none, allows_clause, allows_key, tuples_occur, returned_rule, clauses_rule, ruling}
use Rattle.gx_plan.specs.declared.plan.Carried.{Carried}
use Rattle.gx_plan.specs.Plan.{PlanExpression, kind_carried, kinds_carried, typed_expression, typed_parts, typed_declaration}
use Rattle.gx_plan.specs.Compiling.{compiled, compiled_declaration, compiled_query}
use Rattle.gx_plan.specs.Variables.{case_variables, with_variables_of, with_variables_in, with_variables_in_parts, with_variables_declared, variables_of_query}
use Rattle.gx_sound_typing.proofs.TypedTrees.{HasItsTypes, PartsHaveTheirTypes}
use Rattle.gx_sound_typing.proofs.FullTyping.{DeclarationsHaveTheirTypes, QueryHasItsTypes}
use Rattle.gx_sound_typing.proofs.CompiledTyping.{tree_again}
use Rattle.gx_sound_typing.proofs.VariableTables.{times}
use Rattle.gx_sound_typing.proofs.CarriedVariables.{kinds_are_carried}
use Rattle.gx_rule_laws.proofs.BoundNumbers.{none_in_front, none_behind, absent, is_not_none, compiled_numbers}

-- ---- tables without 0

pub another_first : (number : ℕ) (t : SequenceType) (types : Types) → number ≢ 0 → look_up types 0 ≡ None → look_up ((number, t) ∷ types) 0 ≡ None
another_first number t types n h = ap (λ (same : Bool). if same then Some t else look_up types 0) (ne_eqb number 0 n) ∙ h

position_first : (position : ℕ) (t : SequenceType) (types : Types) → look_up types 0 ≡ None → look_up (position_bound position t ++ types) 0 ≡ None
position_first zero t types h = h
position_first (suc position) t types h = another_first (suc position) t types (λ e. cc) h

-- ---- one operator

-- the numbers that an operator binds anew for parts of these types, behind these
abbrev NoneNew : Operator → (before : List (Unit {0})) → List SequenceType → Type 0
NoneNew operator before [] = Unit {0}
NoneNew operator before (t ∷ ts) = (times (numbers_new_in operator before) 0 ≡ 0) × NoneNew operator (before ++ tt ∷ []) ts

parts_new : (operator : Operator) (before : List (Unit {0})) (parts : Parts Carried) → times (numbers_bound_in operator before parts) 0 ≡ 0
    → NoneNew operator before (kinds_carried parts)
parts_new operator before no_parts h = tt
parts_new operator before (a_part first others) h =
    let new : List ℕ = numbers_new_in operator before in
    let rest : List ℕ = numbers_bound_in operator (before ++ tt ∷ []) others in (
      none_in_front new (numbers_bound first) (none_in_front (new ++ numbers_bound first) rest h),
      parts_new operator (before ++ tt ∷ []) others (none_behind (new ++ numbers_bound first) rest h),
    )

cases_none : (cases : List TypeCase) (types : Types) → look_up types 0 ≡ None → look_up (case_variables cases types) 0 ≡ None
cases_none [] types h = h
cases_none (case ∷ cases) types h = position_first case.variable case.kind (case_variables cases types) (cases_none cases types h)

-- each clause of a block has a part, and another one stands behind these (these four stand in gx_sound_typing/proofs/CountedVariables too)
abbrev Covers : List ClauseKind → List SequenceType → Type 0
Covers [] [] = ⊥
Covers [] (t ∷ ts) = Unit {0}
Covers (kind ∷ kinds) [] = ⊥
Covers (kind ∷ kinds) (t ∷ ts) = Covers kinds ts

none_covers : (clauses : List ClauseKind) → Covers clauses [] → ⊥
none_covers [] h = h
none_covers (kind ∷ kinds) h = h

none_returned : (allows : SequenceType → Bool) (orders : List KeyOrder) (tuples : Occurs) (k : SequenceType) → returned_rule allows orders tuples [] ≡ has_type k → ⊥
none_returned allows [] tuples k e = cc
none_returned allows (order ∷ orders) tuples k e = cc

covered : (allows : ClauseKind → SequenceType → Bool) (clauses : List ClauseKind) (place : ℕ) (next : List SequenceType → Ruling) (ts : List SequenceType) (k : SequenceType)
    → (next [] ≡ has_type k → ⊥) → clauses_rule allows clauses place next ts ≡ has_type k → Covers clauses ts
covered allows [] place next [] k none e = none e
covered allows [] place next (t ∷ ts) k none e = tt
covered allows (kind ∷ clauses) place next [] k none e = absurd (cc)
covered allows (kind ∷ clauses) place next (t ∷ ts) k none e =
    elim (allows kind t) as (λ (b : Bool). (if b then clauses_rule allows clauses (place + 1) next ts else has_none XPTY0004 (Some place)) ≡ has_type k → Covers clauses ts) [
      | true ↦ λ f. covered allows clauses (place + 1) next ts k none f
      | false ↦ λ f. absurd (cc)
    ] e

clause_none : (kind : ClauseKind) (t : SequenceType) (types : Types) → times (clause_numbers_bound kind) 0 ≡ 0 → look_up types 0 ≡ None
    → look_up (clause_types_bound kind t ++ types) 0 ≡ None
clause_none (kinds.For binder position) t types n h =
    another_first binder.variable (prime_of t) (position_bound position (atomic Integer) ++ types) (is_not_none binder.variable (position_numbers position) n)
    (position_first position (atomic Integer) types h)
clause_none (kinds.Let binder) t types n h = another_first binder.variable t types (is_not_none binder.variable [] n) h
clause_none kinds.Where t types n h = h

block_none : (all : List ClauseKind) (keys : List KeyOrder) (done : List (Unit {0})) (left : List ClauseKind) (t : SequenceType) (ts : List SequenceType) (more : Types)
    → ((rest : List (Unit {0})) → block_numbers_new all (done ++ tt ∷ rest) ≡ block_numbers_new left (tt ∷ rest)) → Covers left (t ∷ ts)
    → NoneNew (operators.Block all keys) (done ++ tt ∷ []) ts → look_up more 0 ≡ None → look_up (block_types_bound left (t ∷ ts) more) 0 ≡ None
block_none all keys done [] t ts more same c n h = h
block_none all keys done (kind ∷ clauses) t [] more same c n h = absurd (none_covers clauses c)
block_none all keys done (kind ∷ clauses) t (u ∷ ts) more same c n h =
    block_none all keys (done ++ tt ∷ []) clauses u ts (clause_types_bound kind t ++ more)
    (λ rest. ap (λ (ds : List (Unit {0})). block_numbers_new all ds) (append_assoc done (tt ∷ []) (tt ∷ rest)) ∙ same (tt ∷ rest)) c n.1
    (clause_none kind t more (subst (λ (ns : List ℕ). times ns 0 ≡ 0) (same []) n.0) h)

operator_none : (s : SchemaSet) (operator : Operator) (ts : List SequenceType) (types : Types) (k : SequenceType) → ruling s operator ts types ≡ has_type k
    → NoneNew operator [] ts → (more : Types) → look_up more 0 ≡ None → look_up (with_variables_of operator ts more) 0 ≡ None
operator_none s (operators.For binder position) [] types k e n more h = h
operator_none s (operators.For binder position) (t ∷ []) types k e n more h = absurd (cc)
operator_none s (operators.For binder position) (t ∷ u ∷ ts) types k e n more h =
    another_first binder.variable (prime_of t) (position_bound position (atomic Integer) ++ more) (is_not_none binder.variable (position_numbers position) n.1.0)
    (position_first position (atomic Integer) more h)
operator_none s (operators.SomeIn binder) [] types k e n more h = h
operator_none s (operators.SomeIn binder) (t ∷ []) types k e n more h = absurd (cc)
operator_none s (operators.SomeIn binder) (t ∷ u ∷ ts) types k e n more h = another_first binder.variable (prime_of t) more (is_not_none binder.variable [] n.1.0) h
operator_none s (operators.EveryIn binder) [] types k e n more h = h
operator_none s (operators.EveryIn binder) (t ∷ []) types k e n more h = absurd (cc)
operator_none s (operators.EveryIn binder) (t ∷ u ∷ ts) types k e n more h = another_first binder.variable (prime_of t) more (is_not_none binder.variable [] n.1.0) h
operator_none s (operators.Let binder) [] types k e n more h = h
operator_none s (operators.Let binder) (t ∷ []) types k e n more h = absurd (cc)
operator_none s (operators.Let binder) (t ∷ u ∷ ts) types k e n more h = another_first binder.variable t more (is_not_none binder.variable [] n.1.0) h
operator_none s (operators.Switch cases default) [] types k e n more h = h
operator_none s (operators.Switch cases default) (operand ∷ branches) types k e n more h =
    cases_none cases (position_bound default operand ++ more) (position_first default operand more h)
operator_none s (operators.Block clauses keys) [] types k e n more h =
    absurd (none_covers clauses (covered (allows_clause s) clauses 0 (returned_rule (allows_key s) keys (tuples_occur clauses [])) [] k
    (none_returned (allows_key s) keys (tuples_occur clauses []) k) e))
operator_none s (operators.Block clauses keys) (t ∷ ts) types k e n more h =
    block_none clauses keys [] clauses t ts more (λ rest. refl)
    (covered (allows_clause s) clauses 0 (returned_rule (allows_key s) keys (tuples_occur clauses (t ∷ ts))) (t ∷ ts) k
    (none_returned (allows_key s) keys (tuples_occur clauses (t ∷ ts)) k) e) n.1 h
operator_none s operator [] types k e n more h = h
operator_none s operator (t ∷ ts) types k e n more h = h

-- ---- expressions

mutual
  tree_none : (s : SchemaSet) (e : PlanExpression) (types : Types) → HasItsTypes s (typed_expression e) types → times (numbers_bound e) 0 ≡ 0
      → (more : Types) → look_up more 0 ≡ None → look_up (with_variables_in e more) 0 ≡ None
  tree_none s (At place outer carried operator parts) types h n more m =
      parts_none s operator [] [] parts types h.1 n (with_variables_of operator (kinds_carried parts) more)
      (operator_none s operator (kinds_carried parts) types carried.kind
      (subst (λ (ts : List SequenceType). ruling s operator ts types ≡ has_type carried.kind) (kinds_are_carried parts) h.0)
      (parts_new operator [] parts n) more m)

  parts_none : (s : SchemaSet) (operator : Operator) (before : List SequenceType) (places : List (Unit {0})) (parts : Parts Carried) (types : Types)
      → PartsHaveTheirTypes s operator before (typed_parts parts) types → times (numbers_bound_in operator places parts) 0 ≡ 0
      → (more : Types) → look_up more 0 ≡ None → look_up (with_variables_in_parts parts more) 0 ≡ None
  parts_none s operator before places no_parts types h n more m = m
  parts_none s operator before places (a_part first others) types h n more m =
      let new : List ℕ = numbers_new_in operator places in
      let rest : List ℕ = numbers_bound_in operator (places ++ tt ∷ []) others in
      parts_none s operator (before ++ annotation_of (typed_expression first) ∷ []) (places ++ tt ∷ []) others types h.1
      (none_behind (new ++ numbers_bound first) rest n) (with_variables_in first more)
      (tree_none s first (types_bound operator before ++ types) h.0 (none_behind new (numbers_bound first) (none_in_front (new ++ numbers_bound first) rest n)) more m)

-- ---- whole queries

external_none : (binder : Binder) (kind : Option SequenceType) (types : Types) → binder.variable ≢ 0 → look_up types 0 ≡ None
    → look_up (external_types binder kind ++ types) 0 ≡ None
external_none binder None types n h = h
external_none binder (Some t) types n h = another_first binder.variable t types n h

pub parameters_none : (parameters : List Binder) (types : Types) → times (parameter_numbers parameters) 0 ≡ 0 → look_up types 0 ≡ None
    → look_up (parameter_types parameters ++ types) 0 ≡ None
parameters_none [] types n h = h
parameters_none (parameter ∷ parameters) types n h =
    another_first parameter.variable (type_of_parameter parameter) (parameter_types parameters ++ types) (is_not_none parameter.variable (parameter_numbers parameters) n)
    (parameters_none parameters types (none_behind (parameter.variable ∷ []) (parameter_numbers parameters) n) h)

-- what a global declares
pub global_none : (d : TypedDeclaration) (others : List TypedDeclaration) (types : Types) → times (declared_numbers (map plain_declaration (d ∷ others))) 0 ≡ 0
    → look_up types 0 ≡ None → look_up (global_types d ++ types) 0 ≡ None
global_none (Global name binder (Some value)) others types n h =
    another_first binder.variable (annotation_of value) types (is_not_none binder.variable (declared_numbers (map plain_declaration others))
    (none_behind (numbers_bound (plain value)) (binder.variable ∷ declared_numbers (map plain_declaration others)) n)) h
global_none (Global name binder None) others types n h =
    external_none binder binder.kind types (is_not_none binder.variable (declared_numbers (map plain_declaration others)) n) h
global_none (Function function) others types n h = h

-- and what it declares in the plan
pub compiled_global_none : (d : TypedDeclaration) (others : List TypedDeclaration) (types : Types)
    → times (declared_numbers (map plain_declaration (d ∷ others))) 0 ≡ 0 → look_up types 0 ≡ None
    → look_up (global_types (typed_declaration (compiled_declaration d)) ++ types) 0 ≡ None
compiled_global_none (Global name binder (Some value)) others types n h =
    another_first binder.variable (annotation_of (typed_expression (compiled value))) types (is_not_none binder.variable (declared_numbers (map plain_declaration others))
    (none_behind (numbers_bound (plain value)) (binder.variable ∷ declared_numbers (map plain_declaration others)) n)) h
compiled_global_none (Global name binder None) others types n h =
    external_none binder binder.kind types (is_not_none binder.variable (declared_numbers (map plain_declaration others)) n) h
compiled_global_none (Function function) others types n h = h

none_in_others : (d : TypedDeclaration) (others : List TypedDeclaration) → times (declared_numbers (map plain_declaration (d ∷ others))) 0 ≡ 0
    → times (declared_numbers (map plain_declaration others)) 0 ≡ 0
none_in_others (Global name binder (Some value)) others n =
    let rest : List ℕ = declared_numbers (map plain_declaration others) in
    none_behind (binder.variable ∷ []) rest (none_behind (numbers_bound (plain value)) (binder.variable ∷ rest) n)
none_in_others (Global name binder None) others n = none_behind (binder.variable ∷ []) (declared_numbers (map plain_declaration others)) n
none_in_others (Function function) others n =
    none_behind (parameter_numbers function.parameters ++ numbers_bound (plain function.body)) (declared_numbers (map plain_declaration others)) n

pub globals_none : (ds : List TypedDeclaration) (types : Types) → times (declared_numbers (map plain_declaration ds)) 0 ≡ 0 → look_up types 0 ≡ None
    → look_up (types_declared ds types) 0 ≡ None
globals_none [] types n h = h
globals_none (d ∷ ds) types n h = globals_none ds (global_types d ++ types) (none_in_others d ds n) (global_none d ds types n h)

pub compiled_globals_none : (ds : List TypedDeclaration) (types : Types) → times (declared_numbers (map plain_declaration ds)) 0 ≡ 0 → look_up types 0 ≡ None
    → look_up (types_declared (map typed_declaration (map compiled_declaration ds)) types) 0 ≡ None
compiled_globals_none [] types n h = h
compiled_globals_none (d ∷ ds) types n h =
    compiled_globals_none ds (global_types (typed_declaration (compiled_declaration d)) ++ types) (none_in_others d ds n) (compiled_global_none d ds types n h)

value_none : (s : SchemaSet) (t : TypedExpression) (types : Types) → HasItsTypes s t types → times (numbers_bound (plain t)) 0 ≡ 0
    → (more : Types) → look_up more 0 ≡ None → look_up (with_variables_in (compiled t) more) 0 ≡ None
value_none s t types h n more m =
    tree_none s (compiled t) types (tree_again s t types h).0 (subst (λ (ns : List ℕ). times ns 0 ≡ 0) (sym (compiled_numbers t)) n) more m

declarations_none : (s : SchemaSet) (ds : List TypedDeclaration) (types : Types) → DeclarationsHaveTheirTypes s ds types
    → times (declared_numbers (map plain_declaration ds)) 0 ≡ 0 → (more : Types) → look_up more 0 ≡ None
    → look_up (with_variables_declared (map compiled_declaration ds) more) 0 ≡ None
declarations_none s [] types h n more m = m
declarations_none s (Global name binder (Some value) ∷ ds) types h n more m =
    let rest : List ℕ = declared_numbers (map plain_declaration ds) in
    let behind = none_behind (numbers_bound (plain value)) (binder.variable ∷ rest) n in
    let inner : Types = with_variables_in (compiled value) more in
    declarations_none s ds (global_types (Global name binder (Some value)) ++ types) h.1 (none_behind (binder.variable ∷ []) rest behind)
    ((binder.variable, kind_carried (compiled value)) ∷ inner)
    (another_first binder.variable (kind_carried (compiled value)) inner (is_not_none binder.variable rest behind)
    (value_none s value types h.0 (none_in_front (numbers_bound (plain value)) (binder.variable ∷ rest) n) more m))
declarations_none s (Global name binder None ∷ ds) types h n more m =
    let rest : List ℕ = declared_numbers (map plain_declaration ds) in
    declarations_none s ds (global_types (Global name binder None) ++ types) h.1 (none_behind (binder.variable ∷ []) rest n)
    (external_types binder binder.kind ++ more) (external_none binder binder.kind more (is_not_none binder.variable rest n) m)
declarations_none s (Function function ∷ ds) types h n more m =
    let rest : List ℕ = declared_numbers (map plain_declaration ds) in
    let bound : List ℕ = numbers_bound (plain function.body) in
    let front = none_in_front (parameter_numbers function.parameters ++ bound) rest n in
    declarations_none s ds types h.1 (none_behind (parameter_numbers function.parameters ++ bound) rest n)
    (with_variables_in (compiled function.body) (parameter_types function.parameters ++ more))
    (value_none s function.body (parameter_types function.parameters ++ types) h.0 (none_behind (parameter_numbers function.parameters) bound front) (parameter_types function.parameters ++ more)
    (parameters_none function.parameters more (none_in_front (parameter_numbers function.parameters) bound front) m))

pub none_carried : (s : SchemaSet) (query : TypedCore) → QueryHasItsTypes s query → HasQueryVariablesInOrder (plain_query query)
    → look_up (variables_of_query (compiled_query query)) 0 ≡ None
none_carried s query h order =
    let declared : List ℕ = declared_numbers (map plain_declaration query.declarations) in
    let bound : List ℕ = numbers_bound (plain query.body) in
    let n = absent (declared ++ bound) 0 order.none in
    value_none s query.body (types_declared query.declarations []) h.body (none_behind declared bound n) (with_variables_declared (map compiled_declaration query.declarations) [])
    (declarations_none s query.declarations [] h.declarations (none_in_front declared bound n) [] refl)
