-- A `let` that a rule makes stands in the plan where its value and its body do.
use Rattle.std.proofs.Common.{◌≡◌, ℕ, zero, suc, nat_eq, Bool, true, false, Option, None, Some, List, [], ◌∷◌, ◌++◌, refl, sym, ◌∙◌, ap, subst, if◌then◌else◌}
use Rattle.std.specs.List.{AllByRecursion}
use Rattle.std.proofs.lemmas.Bool.{eqb-true}
use Rattle.gx_base.specs.declared.place.Place.{Place}
use Rattle.gx_types.specs.SchemaSet.{SchemaSet}
use Rattle.gx_types.specs.SequenceType.{SequenceType}
use Rattle.gx_model.specs.Forest.{Forest}
use Rattle.gx_model.specs.Item.{Items}
use Rattle.gx_model.proofs.PublicLaws.{growth_is_an_order}
use Rattle.gx_core.specs.declared.expression.Binder.{Binder}
use Rattle.gx_core.specs.declared.operator.Operator.TheVariants as operators
use Rattle.gx_core.specs.declared.signature.FunctionSignature.{FunctionSignature}
use Rattle.gx_core.specs.Bindings.{Types, look_up, position_bound, position_numbers}
use Rattle.gx_core.specs.Evaluations.{evaluation_of_part, evaluations_after}
use Rattle.gx_core.specs.Expression.{two_parts, annotation_of}
use Rattle.gx_core.specs.Meaning.{CallOutcomes, Context, Bindings, meaning}
use Rattle.gx_core.specs.Outcome.{Outcome, gives, raises, wrong, after}
use Rattle.gx_core.specs.Soundness.{Setting, context_of, IsOfType, Keeps, IsBoundTo, Fits, Situation}
use Rattle.gx_core.proofs.KeptFacts.{calls_keep_still}
use Rattle.gx_core.proofs.SoundQueries.{keeps_its_type}
use Rattle.gx_static.specs.Rule.{is_as_written, let_rule}
use Rattle.gx_static.proofs.Keeping.{type_so}
use Rattle.gx_plan.specs.Plan.{PlanExpression, kind_carried, typed_expression, typed_parts}
use Rattle.gx_plan.specs.Fitting.{FitsAt, BindsWell}
use Rattle.gx_rules.specs.Rules.{made_let}
use Rattle.gx_rule_laws.specs.QuietValues.{with_carried, carried_types, plan_setting}
use Rattle.gx_rule_laws.specs.KeepingSoundness.{StandsInPlan}
use Rattle.gx_rule_laws.proofs.AnyItems.{keeps_ruled}
use Rattle.gx_rule_laws.proofs.FittingOutcomes.{fits_after}
use Rattle.gx_rule_laws.proofs.SoundParts.{kind_of}

module _ (s : SchemaSet) (variables : Types) (known : List FunctionSignature) (calls : CallOutcomes) where
  abbrev setting : Setting
  setting = plan_setting s variables known calls

  abbrev context : Context
  context = context_of setting

  abbrev pub ValueFits : Binder → (value : PlanExpression) → Types → Type 0
  ValueFits binder value types =
      (situation : Situation setting types) (xs : Items) (left : Forest)
      → meaning context (typed_expression value) situation.bindings situation.forest ≡ gives xs left
      → Fits s left (carried_types variables (binder.variable ∷ []) ++ types) ((binder.variable, xs) ∷ situation.bindings)

  let_binds : (binder : Binder) (value body : PlanExpression) (types : Types) → StandsInPlan s variables known calls value types → ValueFits binder value types
      → BindsWell setting (operators.Let binder) (typed_parts (two_parts value body)) types
  let_binds binder value body types value_stands fits situation = (
    record { grown = growth_is_an_order.reflexive situation.forest; honest = situation.honest; fits = situation.fits },
    by_outcome (meaning context (typed_expression value) situation.bindings situation.forest) refl
        (keeps_its_type setting (typed_expression value) types value_stands.stands.sound situation),
  )
    where
      by_outcome : (o : Outcome Items) → meaning context (typed_expression value) situation.bindings situation.forest ≡ o
          → Keeps setting situation.forest (annotation_of (typed_expression value)) o
          → AllByRecursion (FitsAt setting (operators.Let binder) (annotation_of (typed_expression value) ∷ annotation_of (typed_expression body) ∷ []) types situation.forest)
          (evaluations_after o (λ xs left. evaluation_of_part 1 ((binder.variable, xs) ∷ situation.bindings) left ∷ []))
      by_outcome (gives xs left) e keeps = (record { grown = keeps.grown; honest = keeps.honest; fits = fits situation xs left e }, tt)
      by_outcome (raises code) e keeps = tt
      by_outcome wrong e keeps = tt

  pub let_stands : (place : Place) (binder : Binder) (value body : PlanExpression) (types : Types) → StandsInPlan s variables known calls value types
      → StandsInPlan s variables known calls body (carried_types variables (binder.variable ∷ []) ++ types) → ValueFits binder value types
      → StandsInPlan s variables known calls (made_let s place binder value body) types
  let_stands place binder value body types value_stands body_stands fits = record {
    stands = record {
      schemas = value_stands.stands.schemas;
      regular = (tt, (value_stands.stands.regular, (body_stands.stands.regular, tt)));
      sound = ((λ situation. kept situation), (value_stands.stands.sound, (body_stands.stands.sound, tt)));
      well_bound = ((λ situation. let_binds binder value body types value_stands fits situation), (value_stands.stands.well_bound, (body_stands.stands.well_bound, tt)));
    };
    positions = (tt, (value_stands.positions, (body_stands.positions, tt)));
    none_carries = value_stands.none_carries;
    none_typed = value_stands.none_typed;
  }
    where
      body_kept : (situation : Situation setting types)
          → Keeps setting situation.forest (annotation_of (typed_expression body)) (after (meaning context (typed_expression value) situation.bindings situation.forest)
          (λ xs left. meaning context (typed_expression body) ((binder.variable, xs) ∷ situation.bindings) left))
      body_kept situation =
          fits_after setting (FitsAt setting (operators.Let binder) (annotation_of (typed_expression value) ∷ annotation_of (typed_expression body) ∷ []) types situation.forest)
          situation.forest (IsOfType s (annotation_of (typed_expression value))) (IsOfType s (annotation_of (typed_expression body)))
          (meaning context (typed_expression value) situation.bindings situation.forest)
          (λ xs left. meaning context (typed_expression body) ((binder.variable, xs) ∷ situation.bindings) left)
          (λ xs left. evaluation_of_part 1 ((binder.variable, xs) ∷ situation.bindings) left ∷ [])
          (keeps_its_type setting (typed_expression value) types value_stands.stands.sound situation)
          (let_binds binder value body types value_stands fits situation).1
          (λ xs left grown honest belongs all. keeps_its_type setting (typed_expression body) (carried_types variables (binder.variable ∷ []) ++ types) body_stands.stands.sound (record {
            bindings = (binder.variable, xs) ∷ situation.bindings;
            forest = left;
            honest = honest;
            fits = all.0.fits;
            calls_keep = calls_keep_still setting situation.forest left grown situation.calls_keep;
          }))

      kept : (situation : Situation setting types)
          → Keeps setting situation.forest (kind_carried (made_let s place binder value body)) (after (meaning context (typed_expression value) situation.bindings situation.forest)
          (λ xs left. meaning context (typed_expression body) ((binder.variable, xs) ∷ situation.bindings) left))
      kept situation =
          let outcome : Outcome Items = after (meaning context (typed_expression value) situation.bindings situation.forest)
          (λ xs left. meaning context (typed_expression body) ((binder.variable, xs) ∷ situation.bindings) left) in
          let keeps : Keeps setting situation.forest (kind_carried body) outcome = subst (λ (t : SequenceType). Keeps setting situation.forest t outcome) (kind_of body) (body_kept situation) in
          keeps_ruled setting value_stands.stands.schemas situation.forest (kind_carried body) outcome (let_rule s binder (kind_carried value) (kind_carried body)) keeps
          (λ u e. subst (λ (t : SequenceType). Keeps setting situation.forest t outcome) (type_so (is_as_written s binder.kind (kind_carried value)) (kind_carried body) u e).1 keeps)

-- ---- a variable that may be none

none_binds_none : (variables : Types) (found : Option SequenceType) → found ≡ None → with_carried 0 found [] ≡ []
none_binds_none variables None e = refl
none_binds_none variables (Some t) e = absurd (cc)

-- what a case binds has the types that a `let` gives it
pub same_carried : (variables : Types) (number : ℕ) → look_up variables 0 ≡ None → carried_types variables (position_numbers number) ≡ carried_types variables (number ∷ [])
same_carried variables zero e = sym (none_binds_none variables (look_up variables 0) e)
same_carried variables (suc number) e = refl

none_bound : (s : SchemaSet) (forest : Forest) (types : Types) (xs : Items) (bindings : Bindings) → look_up types 0 ≡ None → Fits s forest types bindings
    → Fits s forest types ((zero, xs) ∷ bindings)
none_bound s forest types xs bindings none fits number t e = by_test (nat_eq 0 number) refl (fits number t e)
  where
    some_is_none : Some t ≡ None → ⊥
    some_is_none f = cc

    by_test : (b : Bool) → nat_eq 0 number ≡ b → IsBoundTo s forest bindings number t → IsBoundTo s forest ((zero, xs) ∷ bindings) number t
    by_test true f bound = absurd (some_is_none (sym e ∙ ap (look_up types) (sym (eqb-true 0 number f)) ∙ none))
    by_test false f bound = record {
      value = bound.value;
      bound = ap (λ (same : Bool). if same then Some xs else look_up bindings number) f ∙ bound.bound;
      belongs = bound.belongs;
    }

pub case_fits_let : (s : SchemaSet) (variables : Types) (forest : Forest) (types : Types) (number : ℕ) (xs : Items) (bindings : Bindings) → look_up variables 0 ≡ None
    → look_up types 0 ≡ None → Fits s forest (carried_types variables (position_numbers number) ++ types) (position_bound number xs ++ bindings)
    → Fits s forest (carried_types variables (number ∷ []) ++ types) ((number, xs) ∷ bindings)
case_fits_let s variables forest types (suc number) xs bindings none none_typed fits = fits
case_fits_let s variables forest types zero xs bindings none none_typed fits =
    subst (λ (us : Types). Fits s forest (us ++ types) ((zero, xs) ∷ bindings)) (same_carried variables zero none) (none_bound s forest types xs bindings none_typed fits)
