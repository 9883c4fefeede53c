-- The join that a rule makes is fair, and each rule hands on that joins are fair.
use Rattle.std.proofs.Common.{◌≡◌, ◌⊎◌, inl, inr, zero, Bool, true, false, not, ◌&&◌, ◌||◌, None, Some, List, [], ◌∷◌, ◌++◌, refl, subst}
use Rattle.std.proofs.lemmas.Bool.{and_parts}
use Rattle.gx_base.specs.declared.place.Place.{Place}
use Rattle.gx_base.specs.declared.type_name.Builtin.TheVariants as builtins
use Rattle.gx_facets.specs.declared.AtomValue.{AtomValue}
use Rattle.gx_types.specs.SchemaSet.{SchemaSet}
use Rattle.gx_types.specs.SequenceType.{SequenceType}
use Rattle.gx_include.specs.Decision.{is_included}
use Rattle.gx_funcs.specs.declared.function.Function.TheVariants as functions
use Rattle.gx_core.specs.declared.expression.Binder.{Binder}
use Rattle.gx_core.specs.declared.expression.BinaryOp.TheVariants as binary
use Rattle.gx_core.specs.declared.operator.Operator.TheVariants as operators
use Rattle.gx_core.specs.declared.signature.FunctionSignature.{FunctionSignature}
use Rattle.gx_core.specs.Bindings.{Types, look_up}
use Rattle.gx_core.specs.Expression.{At, no_parts, a_part, two_parts, three_parts}
use Rattle.gx_core.specs.Meaning.{CallOutcomes, meaning}
use Rattle.gx_core.specs.Soundness.{Setting, context_of, Keeps}
use Rattle.gx_core.proofs.SoundQueries.{keeps_its_type}
use Rattle.gx_static.specs.declared.comparison.Family.{Family}
use Rattle.gx_static.specs.declared.comparison.Family.TheVariants as families
use Rattle.gx_static.specs.Rule.{atomic, all_items, is_at_most_one, is_of_family, are_of_family}
use Rattle.gx_static.proofs.Families.{is_value_of}
use Rattle.gx_plan.specs.declared.plan.Carried.{Carried}
use Rattle.gx_plan.specs.Plan.{PlanExpression, kind_carried, typed_expression}
use Rattle.gx_rules.specs.Guards.{is_own_role, is_in_join, are_compared_quietly, is_quiet, is_flat, is_sorted, is_named_in, are_keys_of_one_family}
use Rattle.gx_rules.specs.Rules.{RewritingRule, One, Sorted, Flat, Slashes, Single, Decided, Idle, Joins, rewritten_by, any_atomic_values, occurs_once, with_position, made_let, plain_binder, without_order, slashes_over, join_by_loop, join_by_test, join_by_keys, marked_loops, may_be_joined}
use Rattle.gx_rule_laws.specs.KeepingSoundness.{StandsInPlan, plan_rule_setting}
use Rattle.gx_rule_laws.specs.QuietValues.{carried_types, plan_setting, HasValueInPlace}
use Rattle.gx_rule_laws.specs.FairJoins.{is_number_value, is_text_value, IsKeyOf, AreFairKeys, HasFairJoins}
use Rattle.gx_rule_laws.proofs.GuardLemmas.{met, given_if}
use Rattle.gx_rule_laws.proofs.QuietExpressions.{quiet_expressions_have_values}
use Rattle.gx_rule_laws.proofs.Rewriting.{none_typed_behind}
use Rattle.gx_rule_laws.proofs.SlashesStand.{over_source}
use Rattle.gx_rule_laws.proofs.SoundParts.{kind_of}
use Rattle.gx_rule_laws.proofs.FairRules.{keys_compare, number_so, text_so, is_key, quiet_so, let_fair, order_fair, body_fair, branch_fair, descends_fair, source_fair}

-- a loop without position
abbrev loop_over : (place outer : Place) → Carried → Binder → (source body : PlanExpression) → PlanExpression
loop_over place outer carried binder source body = At place outer carried (operators.For binder zero) (two_parts source body)

module _ (s : SchemaSet) (variables : Types) (known : List FunctionSignature) (calls : CallOutcomes) where
  abbrev setting : Setting
  setting = plan_setting s variables known calls

  abbrev Stands : PlanExpression → Types → Type 0
  Stands e types = StandsInPlan s variables known calls e types

  abbrev Fair : PlanExpression → Types → Type 0
  Fair e types = HasFairJoins setting e types

  -- ---- keys

  key_of_family : (e : PlanExpression) (types : Types) (family : Family) (test : AtomValue → Bool) → ((v : AtomValue) → is_value_of family v ≡ true → test v ≡ true)
      → all_items (is_of_family s family) (kind_carried e) ≡ true → Stands e types → IsKeyOf test setting e types
  key_of_family e types family test h passes stands situation =
      is_key setting family test h situation.forest (kind_carried e) (meaning (context_of setting) (typed_expression e) situation.bindings situation.forest) passes
      (subst (λ (t : SequenceType). Keeps setting situation.forest t (meaning (context_of setting) (typed_expression e) situation.bindings situation.forest)) (kind_of e)
      (keeps_its_type setting (typed_expression e) types stands.stands.sound situation))

  keys_of_family : (left right : PlanExpression) (types : Types) → Stands left types → Stands right types → HasValueInPlace setting left types → HasValueInPlace setting right types
      → are_keys_of_one_family s (kind_carried left) (kind_carried right) ≡ true → AreFairKeys setting left right types
  keys_of_family left right types left_stands right_stands left_value right_value e = record {
    left_value = left_value;
    right_value = right_value;
    family = by_family (are_of_family s (kind_carried left) (kind_carried right) families.Number) refl
        (are_of_family s (kind_carried left) (kind_carried right) families.Text) refl e;
  }
    where
      by_family : (a : Bool) → are_of_family s (kind_carried left) (kind_carried right) families.Number ≡ a
          → (b : Bool) → are_of_family s (kind_carried left) (kind_carried right) families.Text ≡ b → (a || b) ≡ true
          → (IsKeyOf is_number_value setting left types × IsKeyOf is_number_value setting right types)
          ⊎ (IsKeyOf is_text_value setting left types × IsKeyOf is_text_value setting right types)
      by_family true f b g h =
          let p = and_parts (all_items (is_of_family s families.Number) (kind_carried left)) (all_items (is_of_family s families.Number) (kind_carried right)) f in
          inl (key_of_family left types families.Number is_number_value number_so p.0 left_stands, key_of_family right types families.Number is_number_value number_so p.1 right_stands)
      by_family false f true g h =
          let p = and_parts (all_items (is_of_family s families.Text) (kind_carried left)) (all_items (is_of_family s families.Text) (kind_carried right)) g in
          inr (key_of_family left types families.Text is_text_value text_so p.0 left_stands, key_of_family right types families.Text is_text_value text_so p.1 right_stands)
      by_family false f false g h = absurd (cc)

  -- ---- joins

  by_keys : (place o p1 o1 p2 o2 absent ao : Place) (c c1 c2 ac : Carried) (outer inner : Binder) (source other_source comparison result other : PlanExpression) (types : Types)
      → Stands (loop_over place o c outer source (loop_over p1 o1 c1 inner other_source
      (At p2 o2 c2 operators.If (three_parts comparison result (At absent ao ac operators.Empty no_parts))))) types
      → Fair (loop_over place o c outer source (loop_over p1 o1 c1 inner other_source
      (At p2 o2 c2 operators.If (three_parts comparison result (At absent ao ac operators.Empty no_parts))))) types
      → join_by_keys s (record { place = place; binder = outer; source = source }) (record { place = p1; binder = inner; source = other_source }) p2 absent result comparison ≡ Some other
      → Fair other types
  by_keys place o p1 o1 p2 o2 absent ao c c1 c2 ac outer inner source other_source (At p3 o3 c3 (operators.Binary binary.AnyEq) (a_part left (a_part right no_parts))) result other types stands fair h =
      let first : Types = carried_types variables (outer.variable ∷ []) ++ types in
      let second : Types = carried_types variables (inner.variable ∷ []) ++ first in
      let first_none : look_up first 0 ≡ None = none_typed_behind variables (outer.variable ∷ []) types stands.none_carries stands.none_typed in
      let second_none : look_up second 0 ≡ None = none_typed_behind variables (inner.variable ∷ []) first stands.none_carries first_none in
      let guard = met (may_be_joined s outer.variable inner.variable other_source left right)
      (marked_loops s (record { place = place; binder = outer; source = source }) (record { place = p1; binder = inner; source = other_source }) p2 p3 absent left right result) other h in
      let all = and_parts (is_quiet s other_source && (is_quiet s left && is_quiet s right))
      ((not (is_named_in other_source outer.variable) && (not (is_named_in right outer.variable) && not (is_named_in left inner.variable)))
      && are_keys_of_one_family s (kind_carried left) (kind_carried right)) guard.0 in
      let quiet = and_parts (is_quiet s other_source) (is_quiet s left && is_quiet s right) all.0 in
      let quiet_keys = and_parts (is_quiet s left) (is_quiet s right) quiet.1 in
      let family = (and_parts (not (is_named_in other_source outer.variable) && (not (is_named_in right outer.variable) && not (is_named_in left inner.variable)))
      (are_keys_of_one_family s (kind_carried left) (kind_carried right)) all.1).1 in
      let compared : PlanExpression = At p3 o3 c3 (operators.Binary binary.AnyEq) (two_parts left right) in
      let at_second = stands.stands.sound.1.1.0.1.1.0 in
      let other_stands : Stands other_source first = record {
        stands = record { schemas = stands.stands.schemas; regular = stands.stands.regular.1.1.0.1.0; sound = stands.stands.sound.1.1.0.1.0; well_bound = stands.stands.well_bound.1.1.0.1.0 };
        positions = stands.positions.1.1.0.1.0;
        none_carries = stands.none_carries;
        none_typed = first_none;
      } in
      let compared_stands : Stands compared second = record {
        stands = record { schemas = stands.stands.schemas; regular = stands.stands.regular.1.1.0.1.1.0.1.0; sound = at_second.1.0; well_bound = stands.stands.well_bound.1.1.0.1.1.0.1.0 };
        positions = stands.positions.1.1.0.1.1.0.1.0;
        none_carries = stands.none_carries;
        none_typed = second_none;
      } in
      let left_stands : Stands left second = record {
        stands = record { schemas = stands.stands.schemas; regular = compared_stands.stands.regular.1.0; sound = compared_stands.stands.sound.1.0; well_bound = compared_stands.stands.well_bound.1.0 };
        positions = compared_stands.positions.1.0;
        none_carries = stands.none_carries;
        none_typed = second_none;
      } in
      let right_stands : Stands right second = record {
        stands = record { schemas = stands.stands.schemas; regular = compared_stands.stands.regular.1.1.0; sound = compared_stands.stands.sound.1.1.0; well_bound = compared_stands.stands.well_bound.1.1.0 };
        positions = compared_stands.positions.1.1.0;
        none_carries = stands.none_carries;
        none_typed = second_none;
      } in
      let loop_fair = fair.fair.1.1.0 in
      let loop_compare = fair.compare.1.1.0 in
      let test_fair = loop_fair.1.1.0 in
      let test_compare = loop_compare.1.1.0 in
      let compared_fair = test_fair.1.0 in
      let compared_compare = test_compare.1.0 in
      let other_value = quiet_expressions_have_values s variables known calls other_source first other_stands.stands loop_compare.1.0 quiet.0 in
      let left_value = quiet_expressions_have_values s variables known calls left second left_stands.stands compared_compare.1.0 quiet_keys.0 in
      let right_value = quiet_expressions_have_values s variables known calls right second right_stands.stands compared_compare.1.1.0 quiet_keys.1 in
      let quiet_comparison : is_quiet s compared ≡ true =
      quiet_so (is_in_join c3.role) (are_compared_quietly s (kind_carried left) (kind_carried right)) (is_quiet s left) (is_quiet s right)
      (keys_compare s (kind_carried left) (kind_carried right) (are_of_family s (kind_carried left) (kind_carried right) families.Number)
      (are_of_family s (kind_carried left) (kind_carried right) families.Text) refl refl family) quiet_keys.0 quiet_keys.1 in
      let compared_value = quiet_expressions_have_values s variables known calls compared second compared_stands.stands compared_compare quiet_comparison in
      let keys = keys_of_family left right second left_stands right_stands left_value right_value family in
      subst (λ (d : PlanExpression). Fair d types) guard.1 (record {
        fair = (
          (λ marked. absurd (cc)),
          (fair.fair.1.0, (((λ marked. other_value), (loop_fair.1.0, ((tt, (((λ marked. keys), compared_fair.1), (test_fair.1.1.0, ((tt, tt), tt)))), tt))), tt)),
        );
        compare = (
          (λ marked. absurd (cc)),
          (fair.compare.1.0, (((λ marked. absurd (cc)), (loop_compare.1.0, (((λ marked. absurd (cc)), (((λ marked. λ situation. compared_value situation), compared_compare.1), (test_compare.1.1.0, (((λ marked. absurd (cc)), tt), tt)))), tt))), tt)),
        );
      })
  by_keys place o p1 o1 p2 o2 absent ao c c1 c2 ac outer inner source other_source _ result other types stands fair h = absurd (cc)

  by_test : (place o p1 o1 : Place) (c c1 : Carried) (outer inner : Binder) (source other_source test other : PlanExpression) (types : Types)
      → Stands (loop_over place o c outer source (loop_over p1 o1 c1 inner other_source test)) types
      → Fair (loop_over place o c outer source (loop_over p1 o1 c1 inner other_source test)) types
      → join_by_test s (record { place = place; binder = outer; source = source }) (record { place = p1; binder = inner; source = other_source }) test ≡ Some other
      → Fair other types
  by_test place o p1 o1 c c1 outer inner source other_source (At p2 o2 c2 operators.If (a_part comparison (a_part result (a_part (At absent ao ac operators.Empty no_parts) no_parts)))) other types
      stands fair h =
      by_keys place o p1 o1 p2 o2 absent ao c c1 c2 ac outer inner source other_source comparison result other types stands fair h
  by_test place o p1 o1 c c1 outer inner source other_source _ other types stands fair h = absurd (cc)

  by_loop : (place o : Place) (c : Carried) (outer : Binder) (source body other : PlanExpression) (types : Types) → Stands (loop_over place o c outer source body) types
      → Fair (loop_over place o c outer source body) types → join_by_loop s (record { place = place; binder = outer; source = source }) body ≡ Some other → Fair other types
  by_loop place o c outer source (At p1 o1 c1 (operators.For inner zero) (a_part other_source (a_part test no_parts))) other types stands fair h =
      by_test place o p1 o1 c c1 outer inner source other_source test other types stands fair
      (given_if (is_own_role c1.role)
      (join_by_test s (record { place = place; binder = outer; source = source }) (record { place = p1; binder = inner; source = other_source }) test) other h).1
  by_loop place o c outer source _ other types stands fair h = absurd (cc)

  -- ---- all rules

  operand_fair : (guard : Bool) (place outer : Place) (carried : Carried) (e other : PlanExpression) (types : Types) → Fair (At place outer carried operators.Order (a_part e no_parts)) types
      → (guard ≡ true) × (e ≡ other) → Fair other types
  operand_fair guard place outer carried e other types h met_so = subst (λ (d : PlanExpression). Fair d types) met_so.1 (record { fair = h.fair.1.0; compare = h.compare.1.0 })

  one_fair : (e other : PlanExpression) (types : Types) → Fair e types → rewritten_by (plan_rule_setting s variables) One e ≡ Some other → Fair other types
  one_fair (At place outer carried operators.Order (a_part e no_parts)) other types h g =
      operand_fair (is_at_most_one (kind_carried e)) place outer carried e other types h (met (is_at_most_one (kind_carried e)) e other g)
  one_fair _ other types h g = absurd (cc)

  sorted_fair : (e other : PlanExpression) (types : Types) → Fair e types → rewritten_by (plan_rule_setting s variables) Sorted e ≡ Some other → Fair other types
  sorted_fair (At place outer carried operators.Order (a_part e no_parts)) other types h g =
      operand_fair (is_sorted e) place outer carried e other types h (met (is_sorted e) e other g)
  sorted_fair _ other types h g = absurd (cc)

  flat_fair : (e other : PlanExpression) (types : Types) → Fair e types → rewritten_by (plan_rule_setting s variables) Flat e ≡ Some other → Fair other types
  flat_fair (At place outer carried operators.Order (a_part e no_parts)) other types h g =
      operand_fair (is_flat e) place outer carried e other types h (met (is_flat e) e other g)
  flat_fair _ other types h g = absurd (cc)

  idle_fair : (e other : PlanExpression) (types : Types) → Fair e types → rewritten_by (plan_rule_setting s variables) Idle e ≡ Some other → Fair other types
  idle_fair (At place outer carried (operators.Call functions.Boolean) (a_part e no_parts)) other types h g =
      subst (λ (d : PlanExpression). Fair d types) (met (is_included s (kind_carried e) (atomic builtins.Boolean)) e other g).1 (record { fair = h.fair.1.0; compare = h.compare.1.0 })
  idle_fair (At place outer carried operators.DataOf (a_part e no_parts)) other types h g =
      subst (λ (d : PlanExpression). Fair d types) (met (is_included s (kind_carried e) any_atomic_values) e other g).1 (record { fair = h.fair.1.0; compare = h.compare.1.0 })
  idle_fair _ other types h g = absurd (cc)

  slashes_fair : (e other : PlanExpression) (types : Types) → Fair e types → rewritten_by (plan_rule_setting s variables) Slashes e ≡ Some other → Fair other types
  slashes_fair (At place outer carried operators.Order (a_part (At p o c (operators.For binder zero) (a_part source (a_part body no_parts))) no_parts)) other types h g =
      let over = given_if (is_own_role c.role) (slashes_over (plan_rule_setting s variables) place binder.variable source body) other g in
      let order = over_source s variables place binder.variable source body other over.1 in
      subst (λ (d : PlanExpression). Fair d types) order.1.is_made
      (order_fair s variables known calls place order.1.operand types
      (descends_fair s variables known calls order.0 (without_order source) order.1.operand types
      (source_fair s variables known calls source types (record { fair = h.fair.1.0.1.0; compare = h.compare.1.0.1.0 })) order.1.is_found))
  slashes_fair _ other types h g = absurd (cc)

  single_fair : (e other : PlanExpression) (types : Types) → Stands e types → Fair e types → rewritten_by (plan_rule_setting s variables) Single e ≡ Some other → Fair other types
  single_fair (At place outer carried (operators.For binder position) (a_part source (a_part body no_parts))) other types stands h g =
      subst (λ (d : PlanExpression). Fair d types) (met (is_own_role carried.role && occurs_once (kind_carried source)) (made_let s place binder source (with_position s place position body)) other g).1
      (let_fair s variables known calls place binder source (with_position s place position body) types (record { fair = h.fair.1.0; compare = h.compare.1.0 })
      (body_fair s variables known calls place binder.variable position body types stands.stands.regular.0 (record { fair = h.fair.1.1.0; compare = h.compare.1.1.0 })))
  single_fair _ other types stands h g = absurd (cc)

  decided_fair : (e other : PlanExpression) (types : Types) → Stands e types → Fair e types → rewritten_by (plan_rule_setting s variables) Decided e ≡ Some other → Fair other types
  decided_fair (At place outer carried (operators.Switch [] default) (a_part operand (a_part branch no_parts))) other types stands h g =
      let same : made_let s place (plain_binder default place) operand branch ≡ other = cc in
      subst (λ (d : PlanExpression). Fair d types) same
      (let_fair s variables known calls place (plain_binder default place) operand branch types (record { fair = h.fair.1.0; compare = h.compare.1.0 })
      (branch_fair s variables known calls default branch types stands.none_carries (record { fair = h.fair.1.1.0; compare = h.compare.1.1.0 })))
  decided_fair (At place outer carried (operators.Switch (case ∷ cases) default) (a_part operand (a_part branch branches))) other types stands h g =
      subst (λ (d : PlanExpression). Fair d types)
      (met (is_included s (kind_carried operand) case.kind) (made_let s place (plain_binder case.variable place) operand branch) other g).1
      (let_fair s variables known calls place (plain_binder case.variable place) operand branch types (record { fair = h.fair.1.0; compare = h.compare.1.0 })
      (branch_fair s variables known calls case.variable branch types stands.none_carries (record { fair = h.fair.1.1.0; compare = h.compare.1.1.0 })))
  decided_fair _ other types stands h g = absurd (cc)

  joins_fair : (e other : PlanExpression) (types : Types) → Stands e types → Fair e types → rewritten_by (plan_rule_setting s variables) Joins e ≡ Some other → Fair other types
  joins_fair (At place o c (operators.For binder zero) (a_part source (a_part body no_parts))) other types stands h g =
      by_loop place o c binder source body other types stands h
      (given_if (is_own_role c.role) (join_by_loop s (record { place = place; binder = binder; source = source }) body) other g).1
  joins_fair _ other types stands h g = absurd (cc)

  pub rule_fair : (rule : RewritingRule) (e other : PlanExpression) (types : Types) → Stands e types → Fair e types → rewritten_by (plan_rule_setting s variables) rule e ≡ Some other → Fair other types
  rule_fair One e other types stands h g = one_fair e other types h g
  rule_fair Sorted e other types stands h g = sorted_fair e other types h g
  rule_fair Flat e other types stands h g = flat_fair e other types h g
  rule_fair Slashes e other types stands h g = slashes_fair e other types h g
  rule_fair Single e other types stands h g = single_fair e other types stands h g
  rule_fair Decided e other types stands h g = decided_fair e other types stands h g
  rule_fair Idle e other types stands h g = idle_fair e other types h g
  rule_fair Joins e other types stands h g = joins_fair e other types stands h g
