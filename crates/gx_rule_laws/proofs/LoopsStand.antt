-- A loop without position that a rule makes stands in the plan where its source and its body do.
use Rattle.std.proofs.Common.{◌≢◌, ℕ, zero, List, [], ◌∷◌, ◌++◌, refl, subst}
use Rattle.gx_base.specs.declared.place.Place.{Place}
use Rattle.gx_types.specs.Occurrence.{occurrence_of}
use Rattle.gx_types.specs.Prime.{prime_of}
use Rattle.gx_types.specs.TypeRules.{times_of}
use Rattle.gx_types.specs.SchemaSet.{SchemaSet}
use Rattle.gx_types.specs.SequenceType.{SequenceType}
use Rattle.gx_model.specs.Item.{Item, Items}
use Rattle.gx_core.specs.declared.expression.Binder.{Binder}
use Rattle.gx_core.specs.declared.operator.Operator.TheVariants as operators
use Rattle.gx_core.specs.declared.signature.FunctionSignature.{FunctionSignature}
use Rattle.gx_core.specs.Bindings.{Types}
use Rattle.gx_core.specs.Evaluations.{PartEvaluation, turn_evaluations}
use Rattle.gx_core.specs.Expression.{two_parts, annotation_of}
use Rattle.gx_core.specs.Meaning.{CallOutcomes, Context, Bindings, for_each, item_bound, meaning}
use Rattle.gx_core.specs.Outcome.{Outcome, after}
use Rattle.gx_core.specs.Soundness.{Setting, context_of, IsOfType, Keeps, Situation}
use Rattle.gx_core.proofs.KeptFacts.{calls_keep_still}
use Rattle.gx_core.proofs.SoundQueries.{keeps_its_type}
use Rattle.gx_static.specs.Rule.{is_as_written, for_rule}
use Rattle.gx_static.proofs.Keeping.{type_so}
use Rattle.gx_plan.specs.declared.plan.Role.{Role}
use Rattle.gx_plan.specs.Plan.{PlanExpression, kind_carried, typed_expression, typed_parts}
use Rattle.gx_plan.specs.Fitting.{FitsAt, BindsWell}
use Rattle.gx_rules.specs.Rules.{made_as}
use Rattle.gx_rule_laws.specs.QuietValues.{carried_types, plan_setting}
use Rattle.gx_rule_laws.specs.KeepingSoundness.{StandsInPlan}
use Rattle.gx_rule_laws.proofs.AnyItems.{keeps_ruled}
use Rattle.gx_rule_laws.proofs.FittingOutcomes.{fits_after, loop_keeps}
use Rattle.gx_rule_laws.proofs.SoundParts.{kind_of}

module _ (s : SchemaSet) (variables : Types) (known : List FunctionSignature) (calls : CallOutcomes) where
  abbrev setting : Setting
  setting = plan_setting s variables known calls

  abbrev context : Context
  context = context_of setting

  pub for_stands : (role : Role) (place : Place) (binder : Binder) (source body : PlanExpression) (types : Types) → zero ≢ binder.variable
      → StandsInPlan s variables known calls source types → StandsInPlan s variables known calls body (carried_types variables (binder.variable ∷ []) ++ types)
      → BindsWell setting (operators.For binder zero) (typed_parts (two_parts source body)) types
      → StandsInPlan s variables known calls (made_as role s place (operators.For binder zero) (two_parts source body)) types
  for_stands role place binder source body types regular source_stands body_stands binds = record {
    stands = record {
      schemas = source_stands.stands.schemas;
      regular = (regular, (source_stands.stands.regular, (body_stands.stands.regular, tt)));
      sound = ((λ situation. kept situation), (source_stands.stands.sound, (body_stands.stands.sound, tt)));
      well_bound = (binds, (source_stands.stands.well_bound, (body_stands.stands.well_bound, tt)));
    };
    positions = ((λ differs. absurd (differs refl)), (source_stands.positions, (body_stands.positions, tt)));
    none_carries = source_stands.none_carries;
    none_typed = source_stands.none_typed;
  }
    where
      looped : (situation : Situation setting types)
          → Keeps setting situation.forest (times_of (annotation_of (typed_expression body)) (occurrence_of (annotation_of (typed_expression source))))
          (after (meaning context (typed_expression source) situation.bindings situation.forest)
          (λ xs left. for_each (λ number x now. meaning context (typed_expression body) (item_bound binder.variable zero number x ++ situation.bindings) now) 1 [] xs left))
      looped situation =
          let Holds : PartEvaluation → Type 0 = FitsAt setting (operators.For binder zero) (annotation_of (typed_expression source) ∷ annotation_of (typed_expression body) ∷ []) types situation.forest in
          let bound : ℕ → Item → Bindings = λ number x. item_bound binder.variable zero number x ++ situation.bindings in
          fits_after setting Holds situation.forest (IsOfType s (annotation_of (typed_expression source)))
          (IsOfType s (times_of (annotation_of (typed_expression body)) (occurrence_of (annotation_of (typed_expression source)))))
          (meaning context (typed_expression source) situation.bindings situation.forest)
          (λ xs left. for_each (λ number x now. meaning context (typed_expression body) (bound number x) now) 1 [] xs left)
          (λ xs left. turn_evaluations 1 bound (meaning context (typed_expression body)) 1 xs left)
          (keeps_its_type setting (typed_expression source) types source_stands.stands.sound situation) (binds situation).1
          (λ xs left grown honest belongs all.
          loop_keeps setting Holds (annotation_of (typed_expression body)) bound (meaning context (typed_expression body))
          (λ inner forest fit. keeps_its_type setting (typed_expression body) (carried_types variables (binder.variable ∷ []) ++ types) body_stands.stands.sound (record {
            bindings = inner;
            forest = forest;
            honest = fit.honest;
            fits = fit.fits;
            calls_keep = calls_keep_still setting situation.forest forest fit.grown situation.calls_keep;
          }))
          (annotation_of (typed_expression source)) xs left honest belongs all)

      kept : (situation : Situation setting types)
          → Keeps setting situation.forest (kind_carried (made_as role s place (operators.For binder zero) (two_parts source body)))
          (after (meaning context (typed_expression source) situation.bindings situation.forest)
          (λ xs left. for_each (λ number x now. meaning context (typed_expression body) (item_bound binder.variable zero number x ++ situation.bindings) now) 1 [] xs left))
      kept situation =
          let outcome : Outcome Items = after (meaning context (typed_expression source) situation.bindings situation.forest)
          (λ xs left. for_each (λ number x now. meaning context (typed_expression body) (item_bound binder.variable zero number x ++ situation.bindings) now) 1 [] xs left) in
          let t : SequenceType = times_of (kind_carried body) (occurrence_of (kind_carried source)) in
          let keeps : Keeps setting situation.forest t outcome =
          subst (λ (a : SequenceType). Keeps setting situation.forest (times_of (kind_carried body) (occurrence_of a)) outcome) (kind_of source)
          (subst (λ (b : SequenceType). Keeps setting situation.forest (times_of b (occurrence_of (annotation_of (typed_expression source)))) outcome) (kind_of body) (looped situation)) in
          keeps_ruled setting source_stands.stands.schemas situation.forest t outcome (for_rule s binder (kind_carried source) (kind_carried body)) keeps
          (λ u e. subst (λ (v : SequenceType). Keeps setting situation.forest v outcome) (type_so (is_as_written s binder.kind (prime_of (kind_carried source))) t u e).1 keeps)
