-- What operators of a plan bind is among the variables of the plan, and where each of these stands there once, it carries what they bind.
use Rattle.std.proofs.Common.{◌≡◌, ℕ, ◌≤◌, List, [], ◌∷◌, ◌++◌, map, None, Some, take, drop, refl, sym, ◌∙◌, ap, subst}
use Rattle.std.proofs.lemmas.List.{take-append-drop}
use Rattle.gx_types.specs.SequenceType.{SequenceType}
use Rattle.gx_core.specs.declared.cases.TypeCase.{TypeCase}
use Rattle.gx_core.specs.declared.expression.Declaration.{Declaration}
use Rattle.gx_core.specs.declared.expression.Declaration.TheVariants.{Global, Function}
use Rattle.gx_core.specs.declared.operator.ClauseKind.{ClauseKind}
use Rattle.gx_core.specs.declared.operator.Operator.{Operator}
use Rattle.gx_core.specs.declared.operator.Operator.TheVariants as operators
use Rattle.gx_core.specs.Expression.{At, Parts, no_parts, a_part, each_of, annotation_of}
use Rattle.gx_core.specs.Bindings.{Types, position_bound, branch_types, clause_types_bound, block_types_bound, types_bound}
use Rattle.gx_core.specs.QueryMeaning.{external_types, parameter_types}
use Rattle.gx_static.proofs.ScopedVariables.{in_scope, numbers_agree}
use Rattle.gx_plan.specs.declared.plan.Carried.{Carried}
use Rattle.gx_plan.specs.Plan.{PlanExpression, PlanQuery, kind_carried, kinds_carried, typed_expression, typed_parts, typed_declaration, typed_query}
use Rattle.gx_plan.specs.Variables.{case_variables, with_variables_of, with_variables_in, with_variables_in_parts, with_variables_declared, variables_of_query}
use Rattle.gx_sound_typing.specs.CarriedTyping.{carried_types, CarryBound, CarryAllBound, CarryBoundInParts, CarryBoundInDeclarations, CarryBoundInQuery}
use Rattle.gx_sound_typing.proofs.VariableTables.{AllAmong, all_behind, all_here, all_themselves, all_joined, all_through, times, carried_as_bound}

-- ---- one operator

block_grows : (clauses : List ClauseKind) (ts : List SequenceType) (bound more : Types) → AllAmong bound more → AllAmong bound (block_types_bound clauses ts more)
block_grows [] ts bound more h = h
block_grows (kind ∷ kinds) [] bound more h = h
block_grows (kind ∷ kinds) (t ∷ ts) bound more h = block_grows kinds ts bound (clause_types_bound kind t ++ more) (all_behind (clause_types_bound kind t) bound more h)

cases_grow : (cases : List TypeCase) (bound more : Types) → AllAmong bound more → AllAmong bound (case_variables cases more)
cases_grow [] bound more h = h
cases_grow (case ∷ cases) bound more h = all_behind (position_bound case.variable case.kind) bound (case_variables cases more) (cases_grow cases bound more h)

operator_grows : (operator : Operator) (ts : List SequenceType) (bound more : Types) → AllAmong bound more → AllAmong bound (with_variables_of operator ts more)
operator_grows (operators.Switch cases default) [] bound more h = h
operator_grows (operators.Switch cases default) (operand ∷ branches) bound more h =
    cases_grow cases bound (position_bound default operand ++ more) (all_behind (position_bound default operand) bound more h)
operator_grows (operators.Block clauses keys) ts bound more h = block_grows clauses ts bound more h
operator_grows operator [] bound more h = h
operator_grows operator (t ∷ ts) bound more h = all_behind (types_bound operator (t ∷ [])) bound more h

within_block : (clauses : List ClauseKind) (before behind : List SequenceType) (bound more : Types) → AllAmong bound more
    → AllAmong (block_types_bound clauses before bound) (block_types_bound clauses (before ++ behind) more)
within_block [] before behind bound more h = h
within_block (kind ∷ kinds) [] behind bound more h = block_grows (kind ∷ kinds) behind bound more h
within_block (kind ∷ kinds) (t ∷ before) behind bound more h =
    within_block kinds before behind (clause_types_bound kind t ++ bound) (clause_types_bound kind t ++ more) (all_joined (clause_types_bound kind t) bound more h)

within_switch : (cases : List TypeCase) (default : ℕ) (operand : SequenceType) (branches : List SequenceType) (more : Types)
    → AllAmong (branch_types cases default operand branches) (case_variables cases (position_bound default operand ++ more))
within_switch [] default operand branches more = all_here (position_bound default operand) more
within_switch (case ∷ cases) default operand [] more = all_here (position_bound case.variable case.kind) (case_variables cases (position_bound default operand ++ more))
within_switch (case ∷ cases) default operand (branch ∷ branches) more =
    all_behind (position_bound case.variable case.kind) (branch_types cases default operand branches) (case_variables cases (position_bound default operand ++ more))
    (within_switch cases default operand branches more)

-- what an operator binds behind some of its parts
within_operator : (operator : Operator) (before behind : List SequenceType) (more : Types) → AllAmong (types_bound operator before) (with_variables_of operator (before ++ behind) more)
within_operator (operators.For binder position) [] behind more = tt
within_operator (operators.For binder position) (t ∷ []) behind more = all_here (types_bound (operators.For binder position) (t ∷ [])) more
within_operator (operators.For binder position) (t ∷ u ∷ ts) behind more = tt
within_operator (operators.SomeIn binder) [] behind more = tt
within_operator (operators.SomeIn binder) (t ∷ []) behind more = all_here (types_bound (operators.SomeIn binder) (t ∷ [])) more
within_operator (operators.SomeIn binder) (t ∷ u ∷ ts) behind more = tt
within_operator (operators.EveryIn binder) [] behind more = tt
within_operator (operators.EveryIn binder) (t ∷ []) behind more = all_here (types_bound (operators.EveryIn binder) (t ∷ [])) more
within_operator (operators.EveryIn binder) (t ∷ u ∷ ts) behind more = tt
within_operator (operators.Let binder) [] behind more = tt
within_operator (operators.Let binder) (t ∷ []) behind more = all_here (types_bound (operators.Let binder) (t ∷ [])) more
within_operator (operators.Let binder) (t ∷ u ∷ ts) behind more = tt
within_operator (operators.Switch cases default) [] behind more = tt
within_operator (operators.Switch cases default) (operand ∷ branches) behind more = within_switch cases default operand branches more
within_operator (operators.Block clauses keys) before behind more = within_block clauses before behind [] more tt
within_operator _ before behind more = tt

-- ---- expressions

mutual
  tree_grows : (e : PlanExpression) (bound more : Types) → AllAmong bound more → AllAmong bound (with_variables_in e more)
  tree_grows (At place outer carried operator parts) bound more h =
      parts_grow parts bound (with_variables_of operator (kinds_carried parts) more) (operator_grows operator (kinds_carried parts) bound more h)

  parts_grow : (parts : Parts Carried) (bound more : Types) → AllAmong bound more → AllAmong bound (with_variables_in_parts parts more)
  parts_grow no_parts bound more h = h
  parts_grow (a_part first others) bound more h = parts_grow others bound (with_variables_in first more) (tree_grows first bound more h)

kind_is_carried : (e : PlanExpression) → annotation_of (typed_expression e) ≡ kind_carried e
kind_is_carried (At place outer carried operator parts) = refl

pub kinds_are_carried : (parts : Parts Carried) → each_of annotation_of (typed_parts parts) ≡ kinds_carried parts
kinds_are_carried no_parts = refl
kinds_are_carried (a_part first others) =
    let one = kind_is_carried first in
    let rest = kinds_are_carried others in
    λ i. one i ∷ rest i

declarations_grow : (ds : List (Declaration Carried)) (bound more : Types) → AllAmong bound more → AllAmong bound (with_variables_declared ds more)
declarations_grow [] bound more h = h
declarations_grow (Global name binder (Some value) ∷ ds) bound more h =
    declarations_grow ds bound ((binder.variable, kind_carried value) ∷ with_variables_in value more)
    (all_behind ((binder.variable, kind_carried value) ∷ []) bound (with_variables_in value more) (tree_grows value bound more h))
declarations_grow (Global name binder None ∷ ds) bound more h =
    declarations_grow ds bound (external_types binder binder.kind ++ more) (all_behind (external_types binder binder.kind) bound more h)
declarations_grow (Function function ∷ ds) bound more h =
    declarations_grow ds bound (with_variables_in function.body (parameter_types function.parameters ++ more))
    (tree_grows function.body bound (parameter_types function.parameters ++ more) (all_behind (parameter_types function.parameters) bound more h))

module _ (variables : Types) (once : (number : ℕ) → times (in_scope variables) number ≤ 1) where
  operator_carries : (operator : Operator) (ts : List SequenceType) (more : Types) → AllAmong (with_variables_of operator ts more) variables → CarryBound variables operator ts
  operator_carries operator ts more h count =
      let front : List SequenceType = take count ts in
      let within : AllAmong (types_bound operator front) (with_variables_of operator ts more) =
      subst (λ (us : List SequenceType). AllAmong (types_bound operator front) (with_variables_of operator us more)) (take-append-drop count ts) (within_operator operator front (drop count ts) more) in
      ap (λ (ns : List ℕ). carried_types variables ns) (sym (numbers_agree operator front))
      ∙ carried_as_bound variables (types_bound operator front) once (all_through (types_bound operator front) (with_variables_of operator ts more) variables within h)

  mutual
    tree_carries : (e : PlanExpression) (more : Types) → AllAmong (with_variables_in e more) variables → CarryAllBound variables (typed_expression e)
    tree_carries (At place outer carried operator parts) more h =
        let bound : Types = with_variables_of operator (kinds_carried parts) more in (
          subst (λ (ts : List SequenceType). CarryBound variables operator ts) (sym (kinds_are_carried parts))
              (operator_carries operator (kinds_carried parts) more
              (all_through bound (with_variables_in_parts parts bound) variables (parts_grow parts bound bound (all_themselves bound)) h)),
          parts_carry parts bound h,
        )

    parts_carry : (parts : Parts Carried) (more : Types) → AllAmong (with_variables_in_parts parts more) variables → CarryBoundInParts variables (typed_parts parts)
    parts_carry no_parts more h = tt
    parts_carry (a_part first others) more h =
        let inner : Types = with_variables_in first more in (
          tree_carries first more (all_through inner (with_variables_in_parts others inner) variables (parts_grow others inner inner (all_themselves inner)) h),
          parts_carry others inner h,
        )

  -- ---- whole plans

  declarations_carry : (ds : List (Declaration Carried)) (more : Types) → AllAmong (with_variables_declared ds more) variables → CarryBoundInDeclarations variables (map typed_declaration ds)
  declarations_carry [] more h = tt
  declarations_carry (Global name binder (Some value) ∷ ds) more h =
      let inner : Types = with_variables_in value more in
      let all : Types = (binder.variable, kind_carried value) ∷ inner in (
        tree_carries value more (all_through inner all variables (all_behind ((binder.variable, kind_carried value) ∷ []) inner inner (all_themselves inner))
            (all_through all (with_variables_declared ds all) variables (declarations_grow ds all all (all_themselves all)) h)),
        declarations_carry ds all h,
      )
  declarations_carry (Global name binder None ∷ ds) more h = (tt, declarations_carry ds (external_types binder binder.kind ++ more) h)
  declarations_carry (Function function ∷ ds) more h =
      let outer : Types = parameter_types function.parameters ++ more in
      let inner : Types = with_variables_in function.body outer in (
        tree_carries function.body outer (all_through inner (with_variables_declared ds inner) variables (declarations_grow ds inner inner (all_themselves inner)) h),
        declarations_carry ds inner h,
      )

-- where each variable of a plan stands in its table once, it carries the type that its binder gives
pub plans_carry : (plan : PlanQuery) → ((number : ℕ) → times (in_scope (variables_of_query plan)) number ≤ 1) → CarryBoundInQuery (variables_of_query plan) (typed_query plan)
plans_carry plan once =
    let declared : Types = with_variables_declared plan.declarations [] in
    let variables : Types = variables_of_query plan in
    record {
      declarations = declarations_carry variables once plan.declarations [] (tree_grows plan.body declared declared (all_themselves declared));
      body = tree_carries variables once plan.body declared (all_themselves variables);
    }
