-- An order that a rule makes stands in the plan where it comes to what another expression comes to.
use Rattle.std.proofs.Common.{◌≡◌, List, [], ◌∷◌, sym, subst}
use Rattle.std.specs.List.{AllByRecursion}
use Rattle.gx_base.specs.declared.place.Place.{Place}
use Rattle.gx_types.specs.SchemaSet.{SchemaSet}
use Rattle.gx_types.specs.SequenceType.{SequenceType}
use Rattle.gx_model.specs.Forest.{Forest}
use Rattle.gx_model.specs.Item.{Items}
use Rattle.gx_model.proofs.PublicLaws.{growth_is_an_order}
use Rattle.gx_core.specs.declared.operator.Operator.TheVariants as operators
use Rattle.gx_core.specs.declared.signature.FunctionSignature.{FunctionSignature}
use Rattle.gx_core.specs.Bindings.{Types}
use Rattle.gx_core.specs.Evaluations.{evaluations_after}
use Rattle.gx_core.specs.Expression.{one_part, annotation_of}
use Rattle.gx_core.specs.Meaning.{CallOutcomes, Context, denoted, meaning}
use Rattle.gx_core.specs.Outcome.{Outcome, gives, raises, wrong, after}
use Rattle.gx_core.specs.Paths.{put_in_order}
use Rattle.gx_core.specs.Soundness.{Setting, context_of, typed_setting, IsOfType, Keeps, Situation}
use Rattle.gx_core.proofs.KeptFacts.{fact_after}
use Rattle.gx_core.proofs.SoundQueries.{keeps_its_type}
use Rattle.gx_static.specs.Rule.{has_type, order_rule}
use Rattle.gx_static.proofs.Orders.{order_keeps}
use Rattle.gx_plan.specs.Plan.{PlanExpression, kind_carried, typed_expression}
use Rattle.gx_plan.specs.Fitting.{FitsAt}
use Rattle.gx_rules.specs.Rules.{made_operator}
use Rattle.gx_rule_laws.specs.QuietValues.{plan_setting}
use Rattle.gx_rule_laws.specs.KeepingSoundness.{StandsInPlan}
use Rattle.gx_rule_laws.proofs.AnyItems.{keeps_ruled}
use Rattle.gx_rule_laws.proofs.Outcomes.{order_is}
use Rattle.gx_rule_laws.proofs.SoundParts.{kind_of}

-- an outcome keeps a type whatever functions may be called
pub keeps_in_plan : (s : SchemaSet) (variables : Types) (known : List FunctionSignature) (calls : CallOutcomes) (before : Forest) (t : SequenceType) (outcome : Outcome Items)
    → Keeps (typed_setting s) before t outcome → Keeps (plan_setting s variables known calls) before t outcome
keeps_in_plan s variables known calls before t (gives xs left) h = record { grown = h.grown; honest = h.honest; fact = h.fact }
keeps_in_plan s variables known calls before t (raises code) h = tt
keeps_in_plan s variables known calls before t wrong h = absurd h

module _ (s : SchemaSet) (variables : Types) (known : List FunctionSignature) (calls : CallOutcomes) where
  abbrev setting : Setting
  setting = plan_setting s variables known calls

  abbrev context : Context
  context = context_of setting

  pub order_stands : (place : Place) (e : PlanExpression) (types : Types) (t : SequenceType) → StandsInPlan s variables known calls e types
      → ((situation : Situation setting types) → Keeps setting situation.forest t (denoted context operators.Order (meaning context (typed_expression e) ∷ []) situation.bindings situation.forest))
      → StandsInPlan s variables known calls (made_operator s place operators.Order (one_part e)) types
  order_stands place e types t e_stands keeps = record {
    stands = record {
      schemas = e_stands.stands.schemas;
      regular = (tt, (e_stands.stands.regular, tt));
      sound = ((λ situation. kept situation), (e_stands.stands.sound, tt));
      well_bound = (
        (λ situation. (
          record { grown = growth_is_an_order.reflexive situation.forest; honest = situation.honest; fits = situation.fits },
          nothing_behind situation (meaning context (typed_expression e) situation.bindings situation.forest),
        )),
        (e_stands.stands.well_bound, tt),
      );
    };
    positions = (tt, (e_stands.positions, tt));
    none_carries = e_stands.none_carries;
    none_typed = e_stands.none_typed;
  }
    where
      nothing_behind : (situation : Situation setting types) (o : Outcome Items)
          → AllByRecursion (FitsAt setting operators.Order (annotation_of (typed_expression e) ∷ []) types situation.forest) (evaluations_after o (λ value left. []))
      nothing_behind situation (gives xs left) = tt
      nothing_behind situation (raises code) = tt
      nothing_behind situation wrong = tt

      ruled : (situation : Situation setting types) (u : SequenceType) → order_rule s (kind_carried e) ≡ has_type u
          → Keeps setting situation.forest u (after (meaning context (typed_expression e) situation.bindings situation.forest) put_in_order)
      ruled situation u is_ruled =
          fact_after setting situation.forest (IsOfType s (kind_carried e)) (IsOfType s u) (meaning context (typed_expression e) situation.bindings situation.forest) put_in_order
          (subst (λ (k : SequenceType). Keeps setting situation.forest k (meaning context (typed_expression e) situation.bindings situation.forest)) (kind_of e)
          (keeps_its_type setting (typed_expression e) types e_stands.stands.sound situation))
          (λ xs left grown honest belongs. keeps_in_plan s variables known calls left u (put_in_order xs left)
          (order_keeps s e_stands.stands.schemas.grounded (kind_carried e ∷ []) u left (xs ∷ []) is_ruled honest (belongs, tt)))

      kept : (situation : Situation setting types)
          → Keeps setting situation.forest (kind_carried (made_operator s place operators.Order (one_part e)))
          (denoted context operators.Order (meaning context (typed_expression e) ∷ []) situation.bindings situation.forest)
      kept situation =
          let outcome : Outcome Items = denoted context operators.Order (meaning context (typed_expression e) ∷ []) situation.bindings situation.forest in
          keeps_ruled setting e_stands.stands.schemas situation.forest t outcome (order_rule s (kind_carried e)) (keeps situation)
          (λ u is_ruled. subst (λ (o : Outcome Items). Keeps setting situation.forest u o)
          (sym (order_is context (meaning context (typed_expression e)) situation.bindings situation.forest)) (ruled situation u is_ruled))
