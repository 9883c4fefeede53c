-- What is flat stays as it is where it is put in order.
use Rattle.std.proofs.Common.{◌≡◌, inl, ℕ, zero, ◌||◌, nat_eq, Bool, true, false, List, [], ◌∷◌, ◌++◌, take, refl, sym, ◌∙◌, ap, subst}
use Rattle.std.specs.List.{AllByRecursion}
use Rattle.std.proofs.lemmas.Bool.{and_parts, eqb-true}
use Rattle.gx_types.specs.declared.step.Axis.{Axis}
use Rattle.gx_types.specs.declared.step.Test.{Test}
use Rattle.gx_types.specs.SequenceType.{SequenceType}
use Rattle.gx_model.specs.Forest.{Forest}
use Rattle.gx_model.specs.Item.{Items}
use Rattle.gx_core.specs.declared.expression.Binder.{Binder}
use Rattle.gx_core.specs.declared.operator.Operator.{Operator}
use Rattle.gx_core.specs.declared.operator.Operator.TheVariants as operators
use Rattle.gx_core.specs.Bindings.{Types, look_up}
use Rattle.gx_core.specs.Evaluations.{PartEvaluation, evaluation_of_part, evaluations_after}
use Rattle.gx_core.specs.Expression.{At, Parts, no_parts, a_part, annotation_of}
use Rattle.gx_core.specs.Outcome.{Outcome, gives, raises, wrong, after}
use Rattle.gx_core.specs.Meaning.{Context, Bindings, Denotation, denoted, meaning, meanings}
use Rattle.gx_core.specs.PathLaws.{stepped_from_each}
use Rattle.gx_core.specs.Soundness.{Setting, context_of, Keeps, CallsKeepTypes, Situation, IsSound, PartsAreSound}
use Rattle.gx_core.proofs.KeptFacts.{calls_keep_still}
use Rattle.gx_core.proofs.StepLoops.{loops_of_steps}
use Rattle.gx_static.specs.Rule.{is_at_most_one}
use Rattle.gx_plan.specs.declared.plan.Carried.{Carried}
use Rattle.gx_plan.specs.Plan.{PlanExpression, typed_expression, typed_parts}
use Rattle.gx_plan.specs.Fitting.{FitsAt, BindsWell, IsWellBound, PartsAreWellBound}
use Rattle.gx_rules.specs.Guards.{is_near, is_near_step_from, is_flat, is_flat_over}
use Rattle.gx_rules.specs.Rules.{flat, Flat}
use Rattle.gx_rule_laws.specs.KeepingRules.{RuleKeeps}
use Rattle.gx_rule_laws.proofs.GuardLemmas.{met}
use Rattle.gx_rule_laws.proofs.Outcomes.{StaysInOrder, order_is}
use Rattle.gx_rule_laws.proofs.SoundParts.{first_keeps, has_few_items}
use Rattle.gx_rule_laws.proofs.FlatValues.{GivesFlatValue, flat_stays, step_is_flat, loop_is_flat}

-- a value of a type of at most one item
few_are_flat : (setting : Setting) (before : Forest) (t : SequenceType) (outcome : Outcome Items) → is_at_most_one t ≡ true → Keeps setting before t outcome
    → GivesFlatValue outcome
few_are_flat setting before t (gives xs left) e keeps = inl (has_few_items setting.schemas left t xs e keeps.fact)
few_are_flat setting before t (raises code) e keeps = tt
few_are_flat setting before t wrong e keeps = tt

-- a step from the item of a loop
near_step : (context : Context) (variable : ℕ) (body : PlanExpression) → is_near_step_from variable body ≡ true
    → (axis : Axis) × (asks : Test) × (is_near axis ≡ true) × (meaning context (typed_expression body) ≡ denoted context (operators.Step axis asks variable) [])
near_step context variable (At place outer carried (operators.Step axis asks number) no_parts) h =
    let both = and_parts (is_near axis) (nat_eq number variable) h in
    (axis, asks, both.0, ap (λ (n : ℕ). denoted context (operators.Step axis asks n) []) (eqb-true number variable both.1))
near_step context variable _ h = absurd (cc)

-- a loop over such a step
loop_of_near_steps : (context : Context) (binder : Binder) (axis : Axis) (asks : Test) (source body : Denotation) (bindings : Bindings) (forest : Forest)
    → is_near axis ≡ true → body ≡ denoted context (operators.Step axis asks binder.variable) [] → GivesFlatValue (source bindings forest)
    → GivesFlatValue (denoted context (operators.For binder 0) (source ∷ body ∷ []) bindings forest)
loop_of_near_steps context binder axis asks source body bindings forest near e flat =
    subst (λ (d : Denotation). GivesFlatValue (denoted context (operators.For binder 0) (source ∷ d ∷ []) bindings forest)) (sym e)
    (subst GivesFlatValue (sym (loops_of_steps context binder axis asks source bindings forest)) (by_outcome (source bindings forest) flat))
  where
    by_outcome : (o : Outcome Items) → GivesFlatValue o → GivesFlatValue (after o (λ xs left. stepped_from_each context.schemas axis asks [] xs left))
    by_outcome (gives xs left) f = loop_is_flat context.schemas axis asks near xs left f
    by_outcome (raises code) f = tt
    by_outcome wrong f = tt

-- the situation of a part that an operator asks for
abbrev part_situation : (setting : Setting) (operator : Operator) (ts : List SequenceType) (types : Types) (before : Forest) (evaluation : PartEvaluation)
    → CallsKeepTypes setting before → FitsAt setting operator ts types before evaluation → Situation setting (setting.binders operator (take evaluation.part ts) ++ types)
part_situation setting operator ts types before evaluation calls fits = record {
  bindings = evaluation.bindings;
  forest = evaluation.forest;
  honest = fits.honest;
  fits = fits.fits;
  calls_keep = calls_keep_still setting before evaluation.forest fits.grown calls;
}

-- the body of a `let`, wherever that asks for it
body_of_let : (setting : Setting) (binder : Binder) (ts : List SequenceType) (types : Types) (before : Forest) (bindings : Bindings) (body : Denotation) (o : Outcome Items)
    → AllByRecursion (FitsAt setting (operators.Let binder) ts types before) (evaluations_after o (λ xs left. evaluation_of_part 1 ((binder.variable, xs) ∷ bindings) left ∷ []))
    → ((xs : Items) (left : Forest) → FitsAt setting (operators.Let binder) ts types before (evaluation_of_part 1 ((binder.variable, xs) ∷ bindings) left)
    → GivesFlatValue (body ((binder.variable, xs) ∷ bindings) left))
    → GivesFlatValue (after o (λ xs left. body ((binder.variable, xs) ∷ bindings) left))
body_of_let setting binder ts types before bindings body (gives xs left) fits h = h xs left fits.0
body_of_let setting binder ts types before bindings body (raises code) fits h = tt
body_of_let setting binder ts types before bindings body wrong fits h = tt

-- an operand that is put in order
order_of_flat : (context : Context) (operand : Denotation) (bindings : Bindings) (forest : Forest) → GivesFlatValue (operand bindings forest)
    → StaysInOrder (operand bindings forest) → GivesFlatValue (denoted context operators.Order (operand ∷ []) bindings forest)
order_of_flat context operand bindings forest flat stays = subst GivesFlatValue (sym (order_is context operand bindings forest ∙ stays)) flat

-- by its type, or by its operator and its parts
by_kind : (setting : Setting) (operator : Operator) (kind : SequenceType) (parts : List Denotation) (bindings : Bindings) (forest : Forest) (few : Bool)
    → is_at_most_one kind ≡ few → (over : Bool) → (few || over) ≡ true → Keeps setting forest kind (denoted (context_of setting) operator parts bindings forest)
    → (over ≡ true → GivesFlatValue (denoted (context_of setting) operator parts bindings forest))
    → GivesFlatValue (denoted (context_of setting) operator parts bindings forest)
by_kind setting operator kind parts bindings forest true e over h keeps others =
    few_are_flat setting forest kind (denoted (context_of setting) operator parts bindings forest) e keeps
by_kind setting operator kind parts bindings forest false e over h keeps others = others h

mutual
  flat_gives : (setting : Setting) (e : PlanExpression) (types : Types) → IsSound setting (typed_expression e) types
      → IsWellBound setting (typed_expression e) types → is_flat e ≡ true → (situation : Situation setting types)
      → GivesFlatValue (meaning (context_of setting) (typed_expression e) situation.bindings situation.forest)
  flat_gives setting (At place outer carried operator parts) types sound bound h situation =
      by_kind setting operator carried.kind (meanings (context_of setting) (typed_parts parts)) situation.bindings situation.forest (is_at_most_one carried.kind) refl
      (is_flat_over operator parts) h (sound.0 situation)
      (λ over. flat_over_gives setting operator parts types sound.1 bound.0 bound.1 over situation)

  flat_over_gives : (setting : Setting) (operator : Operator) (parts : Parts Carried) (types : Types)
      → PartsAreSound setting operator [] (typed_parts parts) types → BindsWell setting operator (typed_parts parts) types
      → PartsAreWellBound setting operator [] (typed_parts parts) types → is_flat_over operator parts ≡ true → (situation : Situation setting types)
      → GivesFlatValue (denoted (context_of setting) operator (meanings (context_of setting) (typed_parts parts)) situation.bindings situation.forest)
  flat_over_gives setting (operators.Step axis asks number) no_parts types sound binds bound h situation =
      step_is_flat setting.schemas axis asks h (look_up situation.bindings number) situation.forest
  flat_over_gives setting (operators.For binder zero) (a_part source (a_part body no_parts)) types sound binds bound h situation =
      let both = and_parts (is_flat source) (is_near_step_from binder.variable body) h in
      let step = near_step (context_of setting) binder.variable body both.1 in
      let ts : List SequenceType = annotation_of (typed_expression source) ∷ annotation_of (typed_expression body) ∷ [] in
      loop_of_near_steps (context_of setting) binder step.0 step.1 (meaning (context_of setting) (typed_expression source)) (meaning (context_of setting) (typed_expression body))
      situation.bindings situation.forest step.2 step.3
      (flat_gives setting source (setting.binders (operators.For binder zero) [] ++ types) sound.0 bound.0 both.0
      (part_situation setting (operators.For binder zero) ts types situation.forest (evaluation_of_part 0 situation.bindings situation.forest) situation.calls_keep (binds situation).0))
  flat_over_gives setting (operators.Let binder) (a_part value (a_part body no_parts)) types sound binds bound h situation =
      let ts : List SequenceType = annotation_of (typed_expression value) ∷ annotation_of (typed_expression body) ∷ [] in
      body_of_let setting binder ts types situation.forest situation.bindings (meaning (context_of setting) (typed_expression body))
      (meaning (context_of setting) (typed_expression value) situation.bindings situation.forest) (binds situation).1
      (λ xs left fits. flat_gives setting body (setting.binders (operators.Let binder) (annotation_of (typed_expression value) ∷ []) ++ types) sound.1.0 bound.1.0 h
      (part_situation setting (operators.Let binder) ts types situation.forest (evaluation_of_part 1 ((binder.variable, xs) ∷ situation.bindings) left) situation.calls_keep fits))
  flat_over_gives setting operators.Order (a_part operand no_parts) types sound binds bound h situation =
      let ts : List SequenceType = annotation_of (typed_expression operand) ∷ [] in
      let flat = flat_gives setting operand (setting.binders operators.Order [] ++ types) sound.0 bound.0 h
      (part_situation setting operators.Order ts types situation.forest (evaluation_of_part 0 situation.bindings situation.forest) situation.calls_keep (binds situation).0) in
      let keeps : Keeps setting situation.forest (annotation_of (typed_expression operand)) (meaning (context_of setting) (typed_expression operand) situation.bindings situation.forest) =
      first_keeps setting operators.Order ts (typed_expression operand) types situation.bindings situation.forest situation.forest situation.calls_keep (binds situation).0 sound.0 in
      order_of_flat (context_of setting) (meaning (context_of setting) (typed_expression operand)) situation.bindings situation.forest flat
      (flat_stays setting situation.forest (annotation_of (typed_expression operand)) (meaning (context_of setting) (typed_expression operand) situation.bindings situation.forest) flat keeps)
  flat_over_gives setting _ _ types sound binds bound h situation = absurd (cc)

pub flat_keeps : RuleKeeps Flat
flat_keeps setting variables (At place outer carried operators.Order (a_part e no_parts)) other types stands h situation =
    let guard = met (is_flat e) e other h in
    let ts : List SequenceType = annotation_of (typed_expression e) ∷ [] in
    let keeps : Keeps setting situation.forest (annotation_of (typed_expression e)) (meaning (context_of setting) (typed_expression e) situation.bindings situation.forest) =
    first_keeps setting operators.Order ts (typed_expression e) types situation.bindings situation.forest situation.forest situation.calls_keep
    (stands.well_bound.0 situation).0 stands.sound.1.0 in
    let value = flat_gives setting e (setting.binders operators.Order [] ++ types) stands.sound.1.0 stands.well_bound.1.0 guard.0
    (part_situation setting operators.Order ts types situation.forest (evaluation_of_part 0 situation.bindings situation.forest) situation.calls_keep (stands.well_bound.0 situation).0) in
    ap (λ (d : PlanExpression). meaning (context_of setting) (typed_expression d) situation.bindings situation.forest) (sym guard.1)
    ∙ sym (order_is (context_of setting) (meaning (context_of setting) (typed_expression e)) situation.bindings situation.forest
    ∙ flat_stays setting situation.forest (annotation_of (typed_expression e)) (meaning (context_of setting) (typed_expression e) situation.bindings situation.forest) value keeps)
flat_keeps setting variables _ other types stands h situation = absurd (cc)
