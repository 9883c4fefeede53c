-- At most one item is in document order.
use Rattle.std.proofs.Common.{◌≡◌, true, [], ◌∷◌, refl, sym, ◌∙◌, ap}
use Rattle.gx_types.specs.SequenceType.{SequenceType}
use Rattle.gx_model.specs.Forest.{Forest}
use Rattle.gx_model.specs.Item.{Items}
use Rattle.gx_core.specs.declared.operator.Operator.TheVariants as operators
use Rattle.gx_core.specs.Expression.{At, no_parts, a_part, annotation_of}
use Rattle.gx_core.specs.Outcome.{Outcome, gives, raises, wrong}
use Rattle.gx_core.specs.Meaning.{meaning}
use Rattle.gx_core.specs.Soundness.{Setting, context_of, Keeps}
use Rattle.gx_static.specs.Rule.{is_at_most_one}
use Rattle.gx_plan.specs.Plan.{PlanExpression, kind_carried, typed_expression}
use Rattle.gx_rules.specs.Rules.{One}
use Rattle.gx_rule_laws.specs.KeepingRules.{RuleKeeps}
use Rattle.gx_rule_laws.proofs.GuardLemmas.{met}
use Rattle.gx_rule_laws.proofs.Outcomes.{StaysInOrder, order_is}
use Rattle.gx_rule_laws.proofs.InOrder.{few_items_stay}
use Rattle.gx_rule_laws.proofs.SoundParts.{kind_of, first_keeps, has_few_items}

pub few_stay : (setting : Setting) (before : Forest) (t : SequenceType) (outcome : Outcome Items) → is_at_most_one t ≡ true
    → Keeps setting before t outcome → StaysInOrder outcome
few_stay setting before t (gives xs left) e keeps =
    few_items_stay setting.schemas left xs keeps.fact.seen keeps.fact.shaped (has_few_items setting.schemas left t xs e keeps.fact)
few_stay setting before t (raises code) e keeps = refl
few_stay setting before t wrong e keeps = refl

pub one_keeps : RuleKeeps One
one_keeps setting variables (At place outer carried operators.Order (a_part e no_parts)) other types stands h situation =
    let guard = met (is_at_most_one (kind_carried e)) e other h in
    let keeps : Keeps setting situation.forest (annotation_of (typed_expression e)) (meaning (context_of setting) (typed_expression e) situation.bindings situation.forest) =
    first_keeps setting operators.Order (annotation_of (typed_expression e) ∷ []) (typed_expression e) types situation.bindings situation.forest situation.forest situation.calls_keep
    (stands.well_bound.0 situation).0 stands.sound.1.0 in
    ap (λ (d : PlanExpression). meaning (context_of setting) (typed_expression d) situation.bindings situation.forest) (sym guard.1)
    ∙ sym (order_is (context_of setting) (meaning (context_of setting) (typed_expression e)) situation.bindings situation.forest
    ∙ few_stay setting situation.forest (annotation_of (typed_expression e)) (meaning (context_of setting) (typed_expression e) situation.bindings situation.forest)
    (ap is_at_most_one (kind_of e) ∙ guard.0) keeps)
one_keeps setting variables _ other types stands h situation = absurd (cc)
