-- Rules that put an operand in the place of its operator hand on that it stands in the plan.
use Rattle.std.proofs.Common.{List, subst}
use Rattle.gx_base.specs.declared.place.Place.{Place}
use Rattle.gx_types.specs.SchemaSet.{SchemaSet}
use Rattle.gx_include.specs.Decision.{is_included}
use Rattle.gx_funcs.specs.declared.function.Function.TheVariants as functions
use Rattle.gx_core.specs.declared.operator.Operator.TheVariants as operators
use Rattle.gx_core.specs.declared.signature.FunctionSignature.{FunctionSignature}
use Rattle.gx_core.specs.Bindings.{Types}
use Rattle.gx_core.specs.Expression.{At, no_parts, a_part}
use Rattle.gx_core.specs.Meaning.{CallOutcomes}
use Rattle.gx_base.specs.declared.type_name.Builtin.TheVariants as builtins
use Rattle.gx_static.specs.Rule.{atomic, is_at_most_one}
use Rattle.gx_plan.specs.declared.plan.Carried.{Carried}
use Rattle.gx_plan.specs.Plan.{PlanExpression, kind_carried}
use Rattle.gx_rules.specs.Guards.{is_flat, is_sorted}
use Rattle.gx_rules.specs.Rules.{any_atomic_values, One, Sorted, Flat, Idle}
use Rattle.gx_rule_laws.specs.KeepingSoundness.{StandsInPlan, RuleHandsOn}
use Rattle.gx_rule_laws.proofs.GuardLemmas.{met}

operand_of_order : (s : SchemaSet) (variables : Types) (known : List FunctionSignature) (calls : CallOutcomes) (place outer : Place) (carried : Carried) (e : PlanExpression) (types : Types)
    → StandsInPlan s variables known calls (At place outer carried operators.Order (a_part e no_parts)) types → StandsInPlan s variables known calls e types
operand_of_order s variables known calls place outer carried e types h = record {
  stands = record { schemas = h.stands.schemas; regular = h.stands.regular.1.0; sound = h.stands.sound.1.0; well_bound = h.stands.well_bound.1.0 };
  positions = h.positions.1.0;
  none_carries = h.none_carries;
  none_typed = h.none_typed;
}

pub one_hands_on : RuleHandsOn One
one_hands_on s variables known calls (At place outer carried operators.Order (a_part e no_parts)) other types stands h =
    subst (λ (d : PlanExpression). StandsInPlan s variables known calls d types) (met (is_at_most_one (kind_carried e)) e other h).1
    (operand_of_order s variables known calls place outer carried e types stands)
one_hands_on s variables known calls _ other types stands h = absurd (cc)

pub sorted_hands_on : RuleHandsOn Sorted
sorted_hands_on s variables known calls (At place outer carried operators.Order (a_part e no_parts)) other types stands h =
    subst (λ (d : PlanExpression). StandsInPlan s variables known calls d types) (met (is_sorted e) e other h).1
    (operand_of_order s variables known calls place outer carried e types stands)
sorted_hands_on s variables known calls _ other types stands h = absurd (cc)

pub flat_hands_on : RuleHandsOn Flat
flat_hands_on s variables known calls (At place outer carried operators.Order (a_part e no_parts)) other types stands h =
    subst (λ (d : PlanExpression). StandsInPlan s variables known calls d types) (met (is_flat e) e other h).1
    (operand_of_order s variables known calls place outer carried e types stands)
flat_hands_on s variables known calls _ other types stands h = absurd (cc)

pub idle_hands_on : RuleHandsOn Idle
idle_hands_on s variables known calls (At place outer carried (operators.Call functions.Boolean) (a_part e no_parts)) other types stands h =
    subst (λ (d : PlanExpression). StandsInPlan s variables known calls d types) (met (is_included s (kind_carried e) (atomic builtins.Boolean)) e other h).1
    (record {
      stands = record { schemas = stands.stands.schemas; regular = stands.stands.regular.1.0; sound = stands.stands.sound.1.0; well_bound = stands.stands.well_bound.1.0 };
      positions = stands.positions.1.0;
      none_carries = stands.none_carries;
      none_typed = stands.none_typed;
    })
idle_hands_on s variables known calls (At place outer carried operators.DataOf (a_part e no_parts)) other types stands h =
    subst (λ (d : PlanExpression). StandsInPlan s variables known calls d types) (met (is_included s (kind_carried e) any_atomic_values) e other h).1
    (record {
      stands = record { schemas = stands.stands.schemas; regular = stands.stands.regular.1.0; sound = stands.stands.sound.1.0; well_bound = stands.stands.well_bound.1.0 };
      positions = stands.positions.1.0;
      none_carries = stands.none_carries;
      none_typed = stands.none_typed;
    })
idle_hands_on s variables known calls _ other types stands h = absurd (cc)
