-- A child step from all below is a step to the descendants.
use Rattle.std.proofs.Common.{◌≡◌, ℕ, zero, [], ◌∷◌, Some, nat_eq, sym, ◌∙◌, ap}
use Rattle.std.proofs.lemmas.Bool.{eqb-true}
use Rattle.gx_base.specs.declared.place.Place.{Place}
use Rattle.gx_types.specs.declared.step.Axis.TheVariants as axes
use Rattle.gx_model.specs.Forest.{Forest}
use Rattle.gx_core.specs.declared.expression.Binder.{Binder}
use Rattle.gx_core.specs.declared.operator.Operator.TheVariants as operators
use Rattle.gx_core.specs.Expression.{At, no_parts, a_part}
use Rattle.gx_core.specs.Meaning.{Context, Bindings, Denotation, denoted}
use Rattle.gx_core.specs.PathLaws.{ordered}
use Rattle.gx_core.specs.Soundness.{context_of}
use Rattle.gx_plan.specs.Plan.{PlanExpression}
use Rattle.gx_rules.specs.Guards.{is_own_role}
use Rattle.gx_rules.specs.Rules.{RuleSetting, with_steps_below, without_order, ordered_operand, slashes_over, Slashes}
use Rattle.gx_rule_laws.specs.KeepingRules.{RuleKeeps, rule_setting_of}
use Rattle.gx_rule_laws.proofs.GuardLemmas.{given_if}
use Rattle.gx_rule_laws.proofs.Descending.{means, below_source, ordered_so}

-- a loop over a source whose body is a child step
over_source : (context : Context) (setting : RuleSetting) (place : Place) (binder : Binder) (source body other : PlanExpression)
    → slashes_over setting place binder.variable source body ≡ Some other → (bindings : Bindings) (forest : Forest)
    → means context other bindings forest
    ≡ ordered context (denoted context (operators.For binder 0) (means context source ∷ means context body ∷ [])) bindings forest
over_source context setting place binder source (At p o c (operators.Step axes.Child asks number) no_parts) other h bindings forest =
    let guard = given_if (nat_eq number binder.variable) (ordered_operand setting.schemas place (with_steps_below setting asks (without_order source))) other h in
    let made = ordered_so setting.schemas place (with_steps_below setting asks (without_order source)) other guard.1 in
    ap (λ (d : Denotation). d bindings forest) (made.2 context)
    ∙ sym (below_source context setting asks binder source made.0 made.1 bindings forest)
    ∙ ap (λ (n : ℕ). ordered context (denoted context (operators.For binder 0) (means context source ∷ denoted context (operators.Step axes.Child asks n) [] ∷ [])) bindings forest)
    (sym (eqb-true number binder.variable guard.0))
over_source context setting place binder source _ other h bindings forest = absurd (cc)

pub slashes_keep : RuleKeeps Slashes
slashes_keep setting variables (At place outer carried operators.Order (a_part (At p o c (operators.For binder zero) (a_part source (a_part body no_parts))) no_parts)) other types stands h situation =
    let over = given_if (is_own_role c.role) (slashes_over (rule_setting_of setting variables) place binder.variable source body) other h in
    over_source (context_of setting) (rule_setting_of setting variables) place binder source body other over.1 situation.bindings situation.forest
slashes_keep setting variables _ other types stands h situation = absurd (cc)
