-- A join stands in the plan where its loops did.
use Rattle.std.proofs.Common.{◌≡◌, zero, List, [], ◌∷◌, ◌++◌, Some, None, refl, subst}
use Rattle.gx_base.specs.declared.place.Place.{Place}
use Rattle.gx_types.specs.SchemaSet.{SchemaSet}
use Rattle.gx_core.specs.declared.expression.Binder.{Binder}
use Rattle.gx_core.specs.declared.expression.BinaryOp.TheVariants as binary
use Rattle.gx_core.specs.declared.operator.Operator.TheVariants as operators
use Rattle.gx_core.specs.declared.signature.FunctionSignature.{FunctionSignature}
use Rattle.gx_core.specs.Bindings.{Types, look_up}
use Rattle.gx_core.specs.Expression.{At, no_parts, a_part, two_parts, three_parts}
use Rattle.gx_core.specs.Meaning.{CallOutcomes}
use Rattle.gx_plan.specs.declared.plan.Role.TheVariants as roles
use Rattle.gx_plan.specs.declared.plan.Carried.{Carried}
use Rattle.gx_plan.specs.Plan.{PlanExpression, typed_parts}
use Rattle.gx_rules.specs.Guards.{is_own_role}
use Rattle.gx_rules.specs.Rules.{made_as, join_by_loop, join_by_test, join_by_keys, marked_loops, may_be_joined, Joins}
use Rattle.gx_rule_laws.specs.QuietValues.{carried_types}
use Rattle.gx_rule_laws.specs.KeepingSoundness.{StandsInPlan, RuleHandsOn}
use Rattle.gx_rule_laws.proofs.GuardLemmas.{met, given_if}
use Rattle.gx_rule_laws.proofs.LoopsStand.{for_stands}
use Rattle.gx_rule_laws.proofs.Rewriting.{none_typed_behind}
use Rattle.gx_rule_laws.proofs.TestsStand.{binds_over, empty_stands, comparison_stands, if_stands}

-- a loop without position
abbrev loop_over : (place outer : Place) → Carried → Binder → (source body : PlanExpression) → PlanExpression
loop_over place outer carried binder source body = At place outer carried (operators.For binder zero) (two_parts source body)

module _ (s : SchemaSet) (variables : Types) (known : List FunctionSignature) (calls : CallOutcomes) where
  abbrev Stands : PlanExpression → Types → Type 0
  Stands e types = StandsInPlan s variables known calls e types

  by_keys : (place o p1 o1 p2 o2 absent ao : Place) (c c1 c2 ac : Carried) (outer inner : Binder) (source other_source comparison result other : PlanExpression) (types : Types)
      → Stands (loop_over place o c outer source (loop_over p1 o1 c1 inner other_source
      (At p2 o2 c2 operators.If (three_parts comparison result (At absent ao ac operators.Empty no_parts))))) types
      → join_by_keys s (record { place = place; binder = outer; source = source }) (record { place = p1; binder = inner; source = other_source }) p2 absent result comparison ≡ Some other
      → Stands other types
  by_keys place o p1 o1 p2 o2 absent ao c c1 c2 ac outer inner source other_source (At p3 o3 c3 (operators.Binary binary.AnyEq) (a_part left (a_part right no_parts))) result other types stands h =
      let first : Types = carried_types variables (outer.variable ∷ []) ++ types in
      let second : Types = carried_types variables (inner.variable ∷ []) ++ first in
      let first_none : look_up first 0 ≡ None = none_typed_behind variables (outer.variable ∷ []) types stands.none_carries stands.none_typed in
      let second_none : look_up second 0 ≡ None = none_typed_behind variables (inner.variable ∷ []) first stands.none_carries first_none in
      let guard = met (may_be_joined s outer.variable inner.variable other_source left right)
      (marked_loops s (record { place = place; binder = outer; source = source }) (record { place = p1; binder = inner; source = other_source }) p2 p3 absent left right result) other h in
      let empty : PlanExpression = At absent ao ac operators.Empty no_parts in
      let compared : PlanExpression = At p3 o3 c3 (operators.Binary binary.AnyEq) (two_parts left right) in
      let test : PlanExpression = At p2 o2 c2 operators.If (three_parts compared result empty) in
      let loop : PlanExpression = loop_over p1 o1 c1 inner other_source test in
      let source_stands : Stands source types = record {
        stands = record { schemas = stands.stands.schemas; regular = stands.stands.regular.1.0; sound = stands.stands.sound.1.0; well_bound = stands.stands.well_bound.1.0 };
        positions = stands.positions.1.0;
        none_carries = stands.none_carries;
        none_typed = stands.none_typed;
      } in
      let loop_stands : Stands loop first = record {
        stands = record { schemas = stands.stands.schemas; regular = stands.stands.regular.1.1.0; sound = stands.stands.sound.1.1.0; well_bound = stands.stands.well_bound.1.1.0 };
        positions = stands.positions.1.1.0;
        none_carries = stands.none_carries;
        none_typed = first_none;
      } in
      let other_stands : Stands other_source first = record {
        stands = record { schemas = stands.stands.schemas; regular = loop_stands.stands.regular.1.0; sound = loop_stands.stands.sound.1.0; well_bound = loop_stands.stands.well_bound.1.0 };
        positions = loop_stands.positions.1.0;
        none_carries = stands.none_carries;
        none_typed = first_none;
      } in
      let test_stands : Stands test second = record {
        stands = record { schemas = stands.stands.schemas; regular = loop_stands.stands.regular.1.1.0; sound = loop_stands.stands.sound.1.1.0; well_bound = loop_stands.stands.well_bound.1.1.0 };
        positions = loop_stands.positions.1.1.0;
        none_carries = stands.none_carries;
        none_typed = second_none;
      } in
      let compared_stands : Stands compared second = record {
        stands = record { schemas = stands.stands.schemas; regular = test_stands.stands.regular.1.0; sound = test_stands.stands.sound.1.0; well_bound = test_stands.stands.well_bound.1.0 };
        positions = test_stands.positions.1.0;
        none_carries = stands.none_carries;
        none_typed = second_none;
      } in
      let result_stands : Stands result second = record {
        stands = record { schemas = stands.stands.schemas; regular = test_stands.stands.regular.1.1.0; sound = test_stands.stands.sound.1.1.0; well_bound = test_stands.stands.well_bound.1.1.0 };
        positions = test_stands.positions.1.1.0;
        none_carries = stands.none_carries;
        none_typed = second_none;
      } in
      let new_compared : PlanExpression = made_as roles.InJoin s p3 (operators.Binary binary.AnyEq) (two_parts left right) in
      let new_empty : PlanExpression = made_as roles.InJoin s absent operators.Empty no_parts in
      let new_test : PlanExpression = made_as roles.InJoin s p2 operators.If (three_parts new_compared result new_empty) in
      let new_loop : PlanExpression = made_as roles.InJoin s p1 (operators.For inner zero) (two_parts other_source new_test) in
      let new_compared_stands : Stands new_compared second = comparison_stands s variables known calls roles.InJoin p3 p3 o3 c3 left right second compared_stands in
      let new_empty_stands : Stands new_empty second = empty_stands s variables known calls roles.InJoin absent result second result_stands in
      let new_test_stands : Stands new_test second =
      if_stands s variables known calls roles.InJoin p2 new_compared result new_empty second c2.kind new_compared_stands result_stands new_empty_stands
      (binds_over s variables known calls operators.If (typed_parts (three_parts compared result empty)) (typed_parts (three_parts new_compared result new_empty)) second refl refl
      test_stands.stands.well_bound.0)
      (λ situation. test_stands.stands.sound.0 situation) in
      let new_loop_stands : Stands new_loop first =
      for_stands s variables known calls roles.InJoin p1 inner other_source new_test first loop_stands.stands.regular.0 other_stands new_test_stands
      (binds_over s variables known calls (operators.For inner zero) (typed_parts (two_parts other_source test)) (typed_parts (two_parts other_source new_test)) first refl refl
      loop_stands.stands.well_bound.0) in
      subst (λ (d : PlanExpression). Stands d types) guard.1
      (for_stands s variables known calls roles.Join place outer source new_loop types stands.stands.regular.0 source_stands new_loop_stands
      (binds_over s variables known calls (operators.For outer zero) (typed_parts (two_parts source loop)) (typed_parts (two_parts source new_loop)) types refl refl
      stands.stands.well_bound.0))
  by_keys place o p1 o1 p2 o2 absent ao c c1 c2 ac outer inner source other_source _ result other types stands h = absurd (cc)

  by_test : (place o p1 o1 : Place) (c c1 : Carried) (outer inner : Binder) (source other_source test other : PlanExpression) (types : Types)
      → Stands (loop_over place o c outer source (loop_over p1 o1 c1 inner other_source test)) types
      → join_by_test s (record { place = place; binder = outer; source = source }) (record { place = p1; binder = inner; source = other_source }) test ≡ Some other
      → Stands other types
  by_test place o p1 o1 c c1 outer inner source other_source (At p2 o2 c2 operators.If (a_part comparison (a_part result (a_part (At absent ao ac operators.Empty no_parts) no_parts)))) other types
      stands h =
      by_keys place o p1 o1 p2 o2 absent ao c c1 c2 ac outer inner source other_source comparison result other types stands h
  by_test place o p1 o1 c c1 outer inner source other_source _ other types stands h = absurd (cc)

  by_loop : (place o : Place) (c : Carried) (outer : Binder) (source body other : PlanExpression) (types : Types) → Stands (loop_over place o c outer source body) types
      → join_by_loop s (record { place = place; binder = outer; source = source }) body ≡ Some other → Stands other types
  by_loop place o c outer source (At p1 o1 c1 (operators.For inner zero) (a_part other_source (a_part test no_parts))) other types stands h =
      by_test place o p1 o1 c c1 outer inner source other_source test other types stands
      (given_if (is_own_role c1.role)
      (join_by_test s (record { place = place; binder = outer; source = source }) (record { place = p1; binder = inner; source = other_source }) test) other h).1
  by_loop place o c outer source _ other types stands h = absurd (cc)

pub joins_hand_on : RuleHandsOn Joins
joins_hand_on s variables known calls (At place o c (operators.For binder zero) (a_part source (a_part body no_parts))) other types stands h =
    by_loop s variables known calls place o c binder source body other types stands
    (given_if (is_own_role c.role) (join_by_loop s (record { place = place; binder = binder; source = source }) body) other h).1
joins_hand_on s variables known calls _ other types stands h = absurd (cc)
