-- The table of the variables of a compiled query has each number at most as often as the query binds it.
use Rattle.std.proofs.Common.{◌≡◌, ℕ, zero, suc, ◌+◌, ◌≤◌, Bool, true, false, List, [], ◌∷◌, ◌++◌, length, map, Option, None, Some, refl, sym, ◌∙◌, ap, subst, append_assoc, arith, nat_eq, if◌then◌else◌}
use Rattle.std.proofs.lemmas.Bool.{eqb-true}
use Rattle.std.proofs.lemmas.List.{append-nil}
use Rattle.gx_base.specs.declared.place.Place.{Place}
use Rattle.gx_base.specs.declared.code.Code.TheVariants.{XPTY0004}
use Rattle.gx_sorting.specs.declared.keys.KeyOrder.{KeyOrder}
use Rattle.gx_types.specs.Occurs.{Occurs}
use Rattle.gx_types.specs.SchemaSet.{SchemaSet}
use Rattle.gx_types.specs.SequenceType.{SequenceType}
use Rattle.gx_core.specs.declared.cases.TypeCase.{TypeCase}
use Rattle.gx_core.specs.declared.expression.Binder.{Binder}
use Rattle.gx_core.specs.declared.expression.Declaration.TheVariants.{Global, Function}
use Rattle.gx_core.specs.declared.operator.ClauseKind.{ClauseKind}
use Rattle.gx_core.specs.declared.operator.ClauseKind.TheVariants as kinds
use Rattle.gx_core.specs.declared.operator.Operator.{Operator}
use Rattle.gx_core.specs.declared.operator.Operator.TheVariants as operators
use Rattle.gx_core.specs.Queries.{TypedCore, TypedDeclaration}
use Rattle.gx_core.specs.Expression.{At, Parts, no_parts, a_part, each_of, annotation_of, plain, plain_parts}
use Rattle.gx_core.specs.Bindings.{Types, position_bound, position_numbers, branch_numbers, clause_types_bound, clause_numbers_bound, block_types_bound, block_numbers_new, types_bound, numbers_bound_by, numbers_new_in}
use Rattle.gx_core.specs.Invariant.{parameter_numbers, numbers_bound, numbers_bound_in, declared_numbers, HasQueryVariablesInOrder}
use Rattle.gx_core.specs.QueryMeaning.{plain_declaration, plain_query, global_types, types_declared, external_types, parameter_types}
use Rattle.gx_core.specs.Soundness.{TypedExpression}
use Rattle.gx_static.specs.Rule.{Ruling, has_type, has_none, allows_clause, allows_key, tuples_occur, returned_rule, clauses_rule, ruling}
use Rattle.gx_static.proofs.Keeping.{type_so}
use Rattle.gx_static.proofs.ScopedVariables.{in_scope, in_scope_joined, numbers_agree}
use Rattle.gx_plan.specs.declared.plan.Carried.{Carried}
use Rattle.gx_plan.specs.Plan.{kind_carried, kinds_carried}
use Rattle.gx_plan.specs.Compiling.{compiled_operator, compiled, compiled_parts, compiled_declaration, compiled_query}
use Rattle.gx_plan.specs.Variables.{case_variables, with_variables_of, with_variables_in, with_variables_in_parts, with_variables_declared, variables_of_query}
use Rattle.gx_sound_typing.proofs.TypedTrees.{HasItsTypes, PartsHaveTheirTypes}
use Rattle.gx_sound_typing.proofs.FullTyping.{DeclarationsHaveTheirTypes, QueryHasItsTypes}
use Rattle.gx_sound_typing.proofs.CompiledTyping.{parts_again}
use Rattle.gx_sound_typing.proofs.VariableTables.{one_if, times, times_joined, distinct_once}
use Rattle.gx_sound_typing.proofs.CarriedVariables.{kinds_are_carried}

-- the numbers that an operator binds anew for parts of these types, behind these
abbrev news : Operator → (before : List (Unit {0})) → List SequenceType → List ℕ
news operator before [] = []
news operator before (t ∷ ts) = numbers_new_in operator before ++ news operator (before ++ tt ∷ []) ts

-- ---- sums

more_at_least : (a x : ℕ) → a ≤ x + a
more_at_least a x = omega arith

same_at_most : (a b c d : ℕ) → a ≡ b + c → d ≡ b → a ≤ d + c
same_at_most a b c d e f = omega arith

next_at_most : (a b c d e f x : ℕ) → a ≡ b + c → c ≤ d + e → f ≡ b + d → a ≤ f + e
next_at_most a b c d e f x h k l = omega arith

-- ---- one operator

-- of two parts, that binds behind the first alone
loop_counts : (operator : Operator) (t : SequenceType) (more : Types) (number : ℕ)
    → times (in_scope (types_bound operator (t ∷ []) ++ more)) number ≤ times (numbers_bound_by operator (tt ∷ []) ++ []) number + times (in_scope more) number
loop_counts operator t more number =
    same_at_most (times (in_scope (types_bound operator (t ∷ []) ++ more)) number) (times (numbers_bound_by operator (tt ∷ [])) number) (times (in_scope more) number)
    (times (numbers_bound_by operator (tt ∷ []) ++ []) number)
    (ap (λ (ns : List ℕ). times ns number) (in_scope_joined (types_bound operator (t ∷ [])) more ∙ ap (λ (ns : List ℕ). ns ++ in_scope more) (numbers_agree operator (t ∷ [])))
    ∙ times_joined (numbers_bound_by operator (tt ∷ [])) (in_scope more) number)
    (ap (λ (ns : List ℕ). times ns number) (append-nil (numbers_bound_by operator (tt ∷ []))))

position_counts : (position : ℕ) (t : SequenceType) (more : Types) (number : ℕ)
    → times (in_scope (position_bound position t ++ more)) number ≡ times (position_numbers position) number + times (in_scope more) number
position_counts zero t more number = omega arith
position_counts (suc position) t more number = omega arith

switch_counts : (all : List TypeCase) (default : ℕ) (operand : SequenceType) (done : List (Unit {0})) (left : List TypeCase) (branches : List SequenceType) (more : Types) (number : ℕ)
    → ((rest : List (Unit {0})) → branch_numbers all default (done ++ rest) ≡ branch_numbers left default rest) → length branches ≡ length left + 1
    → times (in_scope (case_variables left (position_bound default operand ++ more))) number
    ≤ times (news (operators.Switch all default) (tt ∷ done) branches) number + times (in_scope more) number
switch_counts all default operand done [] [] more number h e = absurd (omega arith)
switch_counts all default operand done [] (b ∷ branches) more number h e =
    let here : branch_numbers all default done ≡ position_numbers default = ap (λ (ds : List (Unit {0})). branch_numbers all default ds) (sym (append-nil done)) ∙ h [] in
    next_at_most (times (in_scope (position_bound default operand ++ more)) number) (times (position_numbers default) number) (times (in_scope more) number)
    (times (news (operators.Switch all default) (tt ∷ done ++ tt ∷ []) branches) number) (times (in_scope more) number)
    (times (branch_numbers all default done ++ news (operators.Switch all default) (tt ∷ done ++ tt ∷ []) branches) number) 0
    (position_counts default operand more number) (more_at_least (times (in_scope more) number) (times (news (operators.Switch all default) (tt ∷ done ++ tt ∷ []) branches) number))
    (times_joined (branch_numbers all default done) (news (operators.Switch all default) (tt ∷ done ++ tt ∷ []) branches) number
    ∙ ap (λ (ns : List ℕ). times ns number + times (news (operators.Switch all default) (tt ∷ done ++ tt ∷ []) branches) number) here)
switch_counts all default operand done (c ∷ cases) [] more number h e = absurd (omega arith)
switch_counts all default operand done (c ∷ cases) (b ∷ branches) more number h e =
    let here : branch_numbers all default done ≡ position_numbers c.variable = ap (λ (ds : List (Unit {0})). branch_numbers all default ds) (sym (append-nil done)) ∙ h [] in
    let left : length branches ≡ length cases + 1 = omega arith in
    next_at_most (times (in_scope (position_bound c.variable c.kind ++ case_variables cases (position_bound default operand ++ more))) number) (times (position_numbers c.variable) number)
    (times (in_scope (case_variables cases (position_bound default operand ++ more))) number)
    (times (news (operators.Switch all default) (tt ∷ done ++ tt ∷ []) branches) number) (times (in_scope more) number)
    (times (branch_numbers all default done ++ news (operators.Switch all default) (tt ∷ done ++ tt ∷ []) branches) number) 0
    (position_counts c.variable c.kind (case_variables cases (position_bound default operand ++ more)) number)
    (switch_counts all default operand (done ++ tt ∷ []) cases branches more number
    (λ rest. ap (λ (ds : List (Unit {0})). branch_numbers all default ds) (append_assoc done (tt ∷ []) rest) ∙ h (tt ∷ rest)) left)
    (times_joined (branch_numbers all default done) (news (operators.Switch all default) (tt ∷ done ++ tt ∷ []) branches) number
    ∙ ap (λ (ns : List ℕ). times ns number + times (news (operators.Switch all default) (tt ∷ done ++ tt ∷ []) branches) number) here)

-- each clause of a block has a part, and another one stands behind these
abbrev Covers : List ClauseKind → List SequenceType → Type 0
Covers [] [] = ⊥
Covers [] (t ∷ ts) = Unit {0}
Covers (kind ∷ kinds) [] = ⊥
Covers (kind ∷ kinds) (t ∷ ts) = Covers kinds ts

none_covers : (clauses : List ClauseKind) → Covers clauses [] → ⊥
none_covers [] h = h
none_covers (kind ∷ kinds) h = h

none_returned : (allows : SequenceType → Bool) (orders : List KeyOrder) (tuples : Occurs) (k : SequenceType) → returned_rule allows orders tuples [] ≡ has_type k → ⊥
none_returned allows [] tuples k e = cc
none_returned allows (order ∷ orders) tuples k e = cc

covered : (allows : ClauseKind → SequenceType → Bool) (clauses : List ClauseKind) (place : ℕ) (next : List SequenceType → Ruling) (ts : List SequenceType) (k : SequenceType)
    → (next [] ≡ has_type k → ⊥) → clauses_rule allows clauses place next ts ≡ has_type k → Covers clauses ts
covered allows [] place next [] k none e = none e
covered allows [] place next (t ∷ ts) k none e = tt
covered allows (kind ∷ clauses) place next [] k none e = absurd (cc)
covered allows (kind ∷ clauses) place next (t ∷ ts) k none e =
    elim (allows kind t) as (λ (b : Bool). (if b then clauses_rule allows clauses (place + 1) next ts else has_none XPTY0004 (Some place)) ≡ has_type k → Covers clauses ts) [
      | true ↦ λ f. covered allows clauses (place + 1) next ts k none f
      | false ↦ λ f. absurd (cc)
    ] e

-- stands in gx_static/proofs/ScopedVariables too
clause_numbers_agree : (kind : ClauseKind) (t : SequenceType) (bound : Types) → in_scope (clause_types_bound kind t ++ bound) ≡ clause_numbers_bound kind ++ in_scope bound
clause_numbers_agree (kinds.For binder zero) t bound = refl
clause_numbers_agree (kinds.For binder (suc number)) t bound = refl
clause_numbers_agree (kinds.Let binder) t bound = refl
clause_numbers_agree kinds.Where t bound = refl

clause_at_most : (a b c d e f : ℕ) → a ≤ b + c → c ≡ d + e → f ≡ d + b → a ≤ f + e
clause_at_most a b c d e f h k l = omega arith

block_counts : (all : List ClauseKind) (keys : List KeyOrder) (done : List (Unit {0})) (left : List ClauseKind) (t : SequenceType) (ts : List SequenceType) (more : Types) (number : ℕ)
    → ((rest : List (Unit {0})) → block_numbers_new all (done ++ tt ∷ rest) ≡ block_numbers_new left (tt ∷ rest)) → Covers left (t ∷ ts)
    → times (in_scope (block_types_bound left (t ∷ ts) more)) number ≤ times (news (operators.Block all keys) (done ++ tt ∷ []) ts) number + times (in_scope more) number
block_counts all keys done [] t ts more number h c = more_at_least (times (in_scope more) number) (times (news (operators.Block all keys) (done ++ tt ∷ []) ts) number)
block_counts all keys done (kind ∷ clauses) t [] more number h c = absurd (none_covers clauses c)
block_counts all keys done (kind ∷ clauses) t (u ∷ ts) more number h c =
    let before : List (Unit {0}) = done ++ tt ∷ [] in
    let inner : Types = clause_types_bound kind t ++ more in
    clause_at_most (times (in_scope (block_types_bound clauses (u ∷ ts) inner)) number) (times (news (operators.Block all keys) (before ++ tt ∷ []) ts) number)
    (times (in_scope inner) number) (times (clause_numbers_bound kind) number) (times (in_scope more) number)
    (times (block_numbers_new all before ++ news (operators.Block all keys) (before ++ tt ∷ []) ts) number)
    (block_counts all keys before clauses u ts inner number
    (λ rest. ap (λ (ds : List (Unit {0})). block_numbers_new all ds) (append_assoc done (tt ∷ []) (tt ∷ rest)) ∙ h (tt ∷ rest)) c)
    (ap (λ (ns : List ℕ). times ns number) (clause_numbers_agree kind t more) ∙ times_joined (clause_numbers_bound kind) (in_scope more) number)
    (times_joined (block_numbers_new all before) (news (operators.Block all keys) (before ++ tt ∷ []) ts) number
    ∙ ap (λ (ns : List ℕ). times ns number + times (news (operators.Block all keys) (before ++ tt ∷ []) ts) number) (h []))

behind_at_most : (a b c d e : ℕ) → a ≤ b + c → d ≡ e + b → a ≤ d + c
behind_at_most a b c d e h k = omega arith

operator_counts : (s : SchemaSet) (operator : Operator) (ts : List SequenceType) (types : Types) (k : SequenceType) → ruling s operator ts types ≡ has_type k → (more : Types) (number : ℕ)
    → times (in_scope (with_variables_of operator ts more)) number ≤ times (news operator [] ts) number + times (in_scope more) number
operator_counts s (operators.For binder position) [] types k e more number = absurd (cc)
operator_counts s (operators.For binder position) (t ∷ []) types k e more number = absurd (cc)
operator_counts s (operators.For binder position) (t ∷ u ∷ []) types k e more number = loop_counts (operators.For binder position) t more number
operator_counts s (operators.For binder position) (t ∷ u ∷ v ∷ ts) types k e more number = absurd (cc)
operator_counts s (operators.SomeIn binder) [] types k e more number = absurd (cc)
operator_counts s (operators.SomeIn binder) (t ∷ []) types k e more number = absurd (cc)
operator_counts s (operators.SomeIn binder) (t ∷ u ∷ []) types k e more number = loop_counts (operators.SomeIn binder) t more number
operator_counts s (operators.SomeIn binder) (t ∷ u ∷ v ∷ ts) types k e more number = absurd (cc)
operator_counts s (operators.EveryIn binder) [] types k e more number = absurd (cc)
operator_counts s (operators.EveryIn binder) (t ∷ []) types k e more number = absurd (cc)
operator_counts s (operators.EveryIn binder) (t ∷ u ∷ []) types k e more number = loop_counts (operators.EveryIn binder) t more number
operator_counts s (operators.EveryIn binder) (t ∷ u ∷ v ∷ ts) types k e more number = absurd (cc)
operator_counts s (operators.Let binder) [] types k e more number = absurd (cc)
operator_counts s (operators.Let binder) (t ∷ []) types k e more number = absurd (cc)
operator_counts s (operators.Let binder) (t ∷ u ∷ []) types k e more number = loop_counts (operators.Let binder) t more number
operator_counts s (operators.Let binder) (t ∷ u ∷ v ∷ ts) types k e more number = absurd (cc)
operator_counts s (operators.Switch cases default) [] types k e more number = absurd (cc)
operator_counts s (operators.Switch cases default) (operand ∷ branches) types k e more number =
    let all : length branches ≡ length cases + 1 = eqb-true (length branches) (length cases + 1) (type_so _ _ k e).0 in
    switch_counts cases default operand [] cases branches more number (λ rest. refl) all
operator_counts s (operators.Block clauses keys) [] types k e more number =
    absurd (none_covers clauses (covered (allows_clause s) clauses 0 (returned_rule (allows_key s) keys (tuples_occur clauses [])) [] k (none_returned (allows_key s) keys (tuples_occur clauses []) k) e))
operator_counts s (operators.Block clauses keys) (t ∷ ts) types k e more number =
    behind_at_most (times (in_scope (block_types_bound clauses (t ∷ ts) more)) number) (times (news (operators.Block clauses keys) (tt ∷ []) ts) number) (times (in_scope more) number)
    (times (block_numbers_new clauses [] ++ news (operators.Block clauses keys) (tt ∷ []) ts) number) (times (block_numbers_new clauses []) number)
    (block_counts clauses keys [] clauses t ts more number (λ rest. refl)
    (covered (allows_clause s) clauses 0 (returned_rule (allows_key s) keys (tuples_occur clauses (t ∷ ts))) (t ∷ ts) k (none_returned (allows_key s) keys (tuples_occur clauses (t ∷ ts)) k) e))
    (times_joined (block_numbers_new clauses []) (news (operators.Block clauses keys) (tt ∷ []) ts) number)
operator_counts s operator [] types k e more number = more_at_least (times (in_scope more) number) 0
operator_counts s operator (t ∷ ts) types k e more number = more_at_least (times (in_scope more) number) (times (news operator [] (t ∷ ts)) number)

-- ---- expressions

compiled_variables : (place outer : Place) (k : SequenceType) (operator : Operator) (parts : Parts Carried) (more : Types)
    → with_variables_in (compiled_operator place outer k operator parts) more ≡ with_variables_in_parts parts (with_variables_of operator (kinds_carried parts) more)
compiled_variables place outer k operators.Nodes (a_part operand no_parts) more = refl
compiled_variables place outer k _ parts more = refl

parts_at_most : (a l w r m n : ℕ) → a + l ≤ r + w → w ≤ l + m → a ≤ r + m
parts_at_most a l w r m n h k = omega arith

part_at_most : (a x m new news bound others l r : ℕ) → l ≡ new + news → r ≡ (new + bound) + others → x ≤ bound + m → a + news ≤ others + x → a + l ≤ r + m
part_at_most a x m new news bound others l r f g h k = omega arith

mutual
  tree_counts : (s : SchemaSet) (t : TypedExpression) (types : Types) → HasItsTypes s t types → (more : Types) (number : ℕ)
      → times (in_scope (with_variables_in (compiled t) more)) number ≤ times (numbers_bound (plain t)) number + times (in_scope more) number
  tree_counts s (At place outer k operator parts) types h more number =
      let carried : kinds_carried (compiled_parts parts) ≡ each_of annotation_of parts = sym (kinds_are_carried (compiled_parts parts)) ∙ (parts_again s operator [] parts types h.1).1 in
      let bound : Types = with_variables_of operator (kinds_carried (compiled_parts parts)) more in
      let here : times (in_scope bound) number ≤ times (news operator [] (each_of annotation_of parts)) number + times (in_scope more) number =
      subst (λ (ts : List SequenceType). times (in_scope (with_variables_of operator ts more)) number ≤ times (news operator [] (each_of annotation_of parts)) number + times (in_scope more) number)
      (sym carried) (operator_counts s operator (each_of annotation_of parts) types k h.0 more number) in
      subst (λ (variables : Types). times (in_scope variables) number ≤ times (numbers_bound_in operator [] (plain_parts parts)) number + times (in_scope more) number)
      (sym (compiled_variables place outer k operator (compiled_parts parts) more))
      (parts_at_most (times (in_scope (with_variables_in_parts (compiled_parts parts) bound)) number) (times (news operator [] (each_of annotation_of parts)) number) (times (in_scope bound) number)
      (times (numbers_bound_in operator [] (plain_parts parts)) number) (times (in_scope more) number) 0
      (parts_count s operator [] [] parts types h.1 bound number) here)

  parts_count : (s : SchemaSet) (operator : Operator) (before : List SequenceType) (places : List (Unit {0})) (parts : Parts SequenceType) (types : Types) → PartsHaveTheirTypes s operator before parts types
      → (more : Types) (number : ℕ) → times (in_scope (with_variables_in_parts (compiled_parts parts) more)) number + times (news operator places (each_of annotation_of parts)) number
      ≤ times (numbers_bound_in operator places (plain_parts parts)) number + times (in_scope more) number
  parts_count s operator before places no_parts types h more number = omega arith
  parts_count s operator before places (a_part first others) types h more number =
      let inner : Types = with_variables_in (compiled first) more in
      let new : List ℕ = numbers_new_in operator places in
      let behind : List ℕ = news operator (places ++ tt ∷ []) (each_of annotation_of others) in
      let rest : List ℕ = numbers_bound_in operator (places ++ tt ∷ []) (plain_parts others) in
      part_at_most (times (in_scope (with_variables_in_parts (compiled_parts others) inner)) number) (times (in_scope inner) number) (times (in_scope more) number)
      (times new number) (times behind number) (times (numbers_bound (plain first)) number) (times rest number)
      (times (new ++ behind) number) (times (new ++ numbers_bound (plain first) ++ rest) number)
      (times_joined new behind number)
      (times_joined (new ++ numbers_bound (plain first)) rest number ∙ ap (λ (n : ℕ). n + times rest number) (times_joined new (numbers_bound (plain first)) number))
      (tree_counts s first (types_bound operator before ++ types) h.0 more number)
      (parts_count s operator (before ++ annotation_of first ∷ []) (places ++ tt ∷ []) others types h.1 inner number)

-- ---- whole queries

-- stands in gx_static/proofs/QueryLaws too
parameters_in_scope : (parameters : List Binder) (types : Types) → in_scope (parameter_types parameters ++ types) ≡ parameter_numbers parameters ++ in_scope types
parameters_in_scope [] types = refl
parameters_in_scope (parameter ∷ parameters) types = ap (λ (ns : List ℕ). parameter.variable ∷ ns) (parameters_in_scope parameters types)

external_counts : (binder : Binder) (kind : Option SequenceType) (more : Types) (number : ℕ)
    → times (in_scope (external_types binder kind ++ more)) number ≤ times (binder.variable ∷ []) number + times (in_scope more) number
external_counts binder None more number = more_at_least (times (in_scope more) number) (times (binder.variable ∷ []) number)
external_counts binder (Some t) more number = omega arith

value_at_most : (a x m b v d r : ℕ) → a ≤ d + (b + x) → x ≤ v + m → r ≡ v + (b + d) → a ≤ r + m
value_at_most a x m b v d r h k l = omega arith

external_at_most : (a x m b d : ℕ) → a ≤ d + x → x ≤ (b + 0) + m → a ≤ (b + d) + m
external_at_most a x m b d h k = omega arith

function_at_most : (a x y m p b d r : ℕ) → a ≤ d + x → x ≤ b + y → y ≡ p + m → r ≡ (p + b) + d → a ≤ r + m
function_at_most a x y m p b d r h k l e = omega arith

declarations_count : (s : SchemaSet) (ds : List TypedDeclaration) (types : Types) → DeclarationsHaveTheirTypes s ds types → (more : Types) (number : ℕ)
    → times (in_scope (with_variables_declared (map compiled_declaration ds) more)) number ≤ times (declared_numbers (map plain_declaration ds)) number + times (in_scope more) number
declarations_count s [] types h more number = more_at_least (times (in_scope more) number) 0
declarations_count s (Global name binder (Some value) ∷ ds) types h more number =
    let inner : Types = with_variables_in (compiled value) more in
    let all : Types = (binder.variable, kind_carried (compiled value)) ∷ inner in
    let behind : List ℕ = declared_numbers (map plain_declaration ds) in
    value_at_most (times (in_scope (with_variables_declared (map compiled_declaration ds) all)) number) (times (in_scope inner) number) (times (in_scope more) number)
    (one_if (nat_eq binder.variable number)) (times (numbers_bound (plain value)) number) (times behind number) (times (numbers_bound (plain value) ++ binder.variable ∷ behind) number)
    (declarations_count s ds (global_types (Global name binder (Some value)) ++ types) h.1 all number)
    (tree_counts s value types h.0 more number)
    (times_joined (numbers_bound (plain value)) (binder.variable ∷ behind) number)
declarations_count s (Global name binder None ∷ ds) types h more number =
    let all : Types = external_types binder binder.kind ++ more in
    external_at_most (times (in_scope (with_variables_declared (map compiled_declaration ds) all)) number) (times (in_scope all) number) (times (in_scope more) number)
    (one_if (nat_eq binder.variable number)) (times (declared_numbers (map plain_declaration ds)) number)
    (declarations_count s ds (global_types (Global name binder None) ++ types) h.1 all number) (external_counts binder binder.kind more number)
declarations_count s (Function function ∷ ds) types h more number =
    let outer : Types = parameter_types function.parameters ++ more in
    let inner : Types = with_variables_in (compiled function.body) outer in
    let behind : List ℕ = declared_numbers (map plain_declaration ds) in
    let bound : List ℕ = numbers_bound (plain function.body) in
    function_at_most (times (in_scope (with_variables_declared (map compiled_declaration ds) inner)) number) (times (in_scope inner) number) (times (in_scope outer) number) (times (in_scope more) number)
    (times (parameter_numbers function.parameters) number) (times bound number) (times behind number) (times (parameter_numbers function.parameters ++ bound ++ behind) number)
    (declarations_count s ds types h.1 inner number)
    (tree_counts s function.body (parameter_types function.parameters ++ types) h.0 outer number)
    (ap (λ (ns : List ℕ). times ns number) (parameters_in_scope function.parameters more) ∙ times_joined (parameter_numbers function.parameters) (in_scope more) number)
    (times_joined (parameter_numbers function.parameters ++ bound) behind number ∙ ap (λ (n : ℕ). n + times behind number) (times_joined (parameter_numbers function.parameters) bound number))

query_at_most : (a x b d r : ℕ) → a ≤ b + x → x ≤ d + 0 → r ≡ d + b → r ≤ 1 → a ≤ 1
query_at_most a x b d r h k l e = omega arith

pub variables_stand_once : (s : SchemaSet) (query : TypedCore) → QueryHasItsTypes s query → HasQueryVariablesInOrder (plain_query query) → (number : ℕ)
    → times (in_scope (variables_of_query (compiled_query query))) number ≤ 1
variables_stand_once s query h order number =
    let declared : Types = with_variables_declared (map compiled_declaration query.declarations) [] in
    let behind : List ℕ = declared_numbers (map plain_declaration query.declarations) in
    let bound : List ℕ = numbers_bound (plain query.body) in
    query_at_most (times (in_scope (with_variables_in (compiled query.body) declared)) number) (times (in_scope declared) number) (times bound number) (times behind number) (times (behind ++ bound) number)
    (tree_counts s query.body (types_declared query.declarations []) h.body declared number) (declarations_count s query.declarations [] h.declarations [] number)
    (times_joined behind bound number) (distinct_once (behind ++ bound) number order.once)
