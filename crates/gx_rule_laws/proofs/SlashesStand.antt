-- The descendants that stand for children of all below stand in the plan where these did.
use Rattle.std.proofs.Common.{◌≡◌, ◌≢◌, ℕ, zero, suc, Bool, true, ◌&&◌, nat_eq, Option, None, Some, List, [], ◌∷◌, ◌++◌, refl, sym, ◌∙◌, ap, subst, eq-eqb, if◌then◌else◌}
use Rattle.std.specs.List.{AllByRecursion}
use Rattle.std.proofs.lemmas.Bool.{and_parts, eqb-true}
use Rattle.gx_base.specs.declared.place.Place.{Place}
use Rattle.gx_types.specs.declared.step.Axis.{Axis}
use Rattle.gx_types.specs.declared.step.Axis.TheVariants as axes
use Rattle.gx_types.specs.declared.step.Test.{Test}
use Rattle.gx_types.specs.declared.step.Test.TheVariants as tests
use Rattle.gx_types.specs.SchemaSet.{SchemaSet}
use Rattle.gx_types.specs.SequenceType.{SequenceType}
use Rattle.gx_model.specs.Forest.{Forest}
use Rattle.gx_model.specs.Item.{Item, Items, atom, node}
use Rattle.gx_core.specs.declared.expression.Binder.{Binder}
use Rattle.gx_core.specs.declared.operator.Operator.{Operator}
use Rattle.gx_core.specs.declared.operator.Operator.TheVariants as operators
use Rattle.gx_core.specs.declared.signature.FunctionSignature.{FunctionSignature}
use Rattle.gx_core.specs.Bindings.{Types, look_up, numbers_bound_by}
use Rattle.gx_core.specs.Evaluations.{PartEvaluation, evaluation_of_part, evaluations_after, turn_evaluations}
use Rattle.gx_core.specs.Expression.{At, no_parts, a_part, one_part, two_parts, annotation_of}
use Rattle.gx_core.specs.Meaning.{CallOutcomes, Context, Bindings, Denotation, item_bound, denoted, meaning}
use Rattle.gx_core.specs.Outcome.{Outcome, gives, raises, wrong, given}
use Rattle.gx_core.specs.Paths.{stepped}
use Rattle.gx_core.specs.Soundness.{Setting, context_of, Keeps, Fits}
use Rattle.gx_core.proofs.SoundQueries.{keeps_its_type}
use Rattle.gx_plan.specs.declared.plan.Role.TheVariants as roles
use Rattle.gx_plan.specs.declared.plan.Carried.{Carried}
use Rattle.gx_plan.specs.Plan.{PlanExpression, typed_expression, typed_parts}
use Rattle.gx_plan.specs.Fitting.{FitsAt, BindsWell}
use Rattle.gx_rules.specs.Guards.{is_own_role}
use Rattle.gx_rules.specs.Rules.{made_operator, made_step, binds_alone, is_step_to_all_below, loop_over_descendants, descending_from, with_steps_below, without_order, ordered_operand, slashes_over, Slashes}
use Rattle.gx_rule_laws.specs.QuietValues.{with_carried, carried_types, plan_setting}
use Rattle.gx_rule_laws.specs.KeepingSoundness.{StandsInPlan, plan_rule_setting, RuleHandsOn}
use Rattle.gx_rule_laws.proofs.GuardLemmas.{met, given_if}
use Rattle.gx_rule_laws.proofs.Descending.{step_below}
use Rattle.gx_rule_laws.proofs.SlashedPaths.{slashes_keep}
use Rattle.gx_rule_laws.proofs.ReplacedParts.{all_so}
use Rattle.gx_rule_laws.proofs.Rewriting.{units_taken, none_typed_behind}
use Rattle.gx_rule_laws.proofs.LetsStand.{let_stands}
use Rattle.gx_rule_laws.proofs.LoopsStand.{for_stands}
use Rattle.gx_rule_laws.proofs.OrdersStand.{order_stands}
use Rattle.gx_rule_laws.proofs.StepsStand.{other_step_keeps}

-- what a variable carries is its type where it is bound
carried_here : (number : ℕ) (found : Option SequenceType) (types : Types) (u : SequenceType) → found ≡ Some u → look_up (with_carried number found [] ++ types) number ≡ Some u
carried_here number None types u e = absurd (cc)
carried_here number (Some t) types u e = ap (λ (same : Bool). if same then Some t else look_up types number) (eq-eqb number number refl) ∙ e

own_item : (context : Context) (axis : Axis) (asks : Test) (variable number : ℕ) (x : Item) (bindings : Bindings) (forest : Forest)
    → denoted context (operators.Step axis asks variable) [] (item_bound variable 0 number x ++ bindings) forest ≡ stepped context.schemas axis asks (x ∷ []) forest
own_item context axis asks variable number x bindings forest =
    ap (λ (same : Bool). given (if same then Some (x ∷ []) else look_up bindings variable) (λ value. stepped context.schemas axis asks value forest)) (eq-eqb variable variable refl)

-- a loop over one step asks for the evaluations of a loop over another one
turns_so : (Holds : PartEvaluation → Type 0) (context : Context) (first axis : Axis) (passes asks : Test) (variable : ℕ) (bindings : Bindings) (xs : Items) (number : ℕ) (forest : Forest)
    → AllByRecursion Holds (turn_evaluations 1 (λ k x. item_bound variable 0 k x ++ bindings) (denoted context (operators.Step first passes variable) []) number xs forest)
    → AllByRecursion Holds (turn_evaluations 1 (λ k x. item_bound variable 0 k x ++ bindings) (denoted context (operators.Step axis asks variable) []) number xs forest)
turns_so Holds context first axis passes asks variable bindings [] number forest h = tt
turns_so Holds context first axis passes asks variable bindings (atom a ∷ xs) number forest h = (
  h.0,
  subst (λ (o : Outcome Items). AllByRecursion Holds (evaluations_after o (λ more left. turn_evaluations 1 (λ k x. item_bound variable 0 k x ++ bindings)
      (denoted context (operators.Step axis asks variable) []) (suc number) xs left))) (sym (own_item context axis asks variable number (atom a) bindings forest)) tt,
)
turns_so Holds context first axis passes asks variable bindings (node place ∷ xs) number forest h = (
  h.0,
  subst (λ (o : Outcome Items). AllByRecursion Holds (evaluations_after o (λ more left. turn_evaluations 1 (λ k x. item_bound variable 0 k x ++ bindings)
      (denoted context (operators.Step axis asks variable) []) (suc number) xs left))) (sym (own_item context axis asks variable number (node place) bindings forest))
      (turns_so Holds context first axis passes asks variable bindings xs (suc number) forest
      (subst (λ (o : Outcome Items). AllByRecursion Holds (evaluations_after o (λ more left. turn_evaluations 1 (λ k x. item_bound variable 0 k x ++ bindings)
      (denoted context (operators.Step first passes variable) []) (suc number) xs left))) (own_item context first passes variable number (node place) bindings forest) h.1)),
)

-- a step to all below is regular
below_is_regular : (variable : ℕ) (s : SchemaSet) (variables : Types) (known : List FunctionSignature) (calls : CallOutcomes) (body : PlanExpression) (types : Types)
    → is_step_to_all_below variable body ≡ true → StandsInPlan s variables known calls body types → variable ≢ 0
below_is_regular variable s variables known calls (At place outer carried (operators.Step axes.DescendantOrSelf tests.Node number) no_parts) types h stands =
    subst (λ (n : ℕ). n ≢ 0) (eqb-true number variable h) stands.stands.regular.0
below_is_regular variable s variables known calls _ types h stands = absurd (cc)

module _ (s : SchemaSet) (variables : Types) (known : List FunctionSignature) (calls : CallOutcomes) where
  abbrev setting : Setting
  setting = plan_setting s variables known calls

  abbrev context : Context
  context = context_of setting

  -- the step to the descendants
  step_stands : (place : Place) (asks : Test) (variable : ℕ) (body : PlanExpression) (types : Types) → is_step_to_all_below variable body ≡ true
      → StandsInPlan s variables known calls body (carried_types variables (variable ∷ []) ++ types)
      → StandsInPlan s variables known calls (made_step (plan_rule_setting s variables) place asks variable) (carried_types variables (variable ∷ []) ++ types)
  step_stands place asks variable body types below stands = record {
    stands = record {
      schemas = stands.stands.schemas;
      regular = (below_is_regular variable s variables known calls body (carried_types variables (variable ∷ []) ++ types) below stands, tt);
      sound = (
        (λ situation. other_step_keeps setting stands.stands.schemas (carried_types variables (variable ∷ []) ++ types) situation axes.DescendantOrSelf axes.Descendant tests.Node asks variable
            (look_up variables variable) (annotation_of (typed_expression body)) (λ u e. carried_here variable (look_up variables variable) types u e)
            (subst (λ (d : Denotation). Keeps setting situation.forest (annotation_of (typed_expression body)) (d situation.bindings situation.forest)) (step_below context variable body below)
            (keeps_its_type setting (typed_expression body) (carried_types variables (variable ∷ []) ++ types) stands.stands.sound situation))),
        tt,
      );
      well_bound = ((λ situation. tt), tt);
    };
    positions = (tt, tt);
    none_carries = stands.none_carries;
    none_typed = stands.none_typed;
  }

  -- a loop over it binds what the loop over all below binds
  loop_binds : (place : Place) (asks : Test) (binder : Binder) (source body : PlanExpression) (types : Types) → is_step_to_all_below binder.variable body ≡ true
      → BindsWell setting (operators.For binder zero) (typed_parts (two_parts source body)) types
      → BindsWell setting (operators.For binder zero) (typed_parts (two_parts source (made_step (plan_rule_setting s variables) place asks binder.variable))) types
  loop_binds place asks binder source body types below binds situation =
      let first = binds situation in (
        record { grown = first.0.grown; honest = first.0.honest; fits = first.0.fits },
        by_outcome (meaning context (typed_expression source) situation.bindings situation.forest) first.1,
      )
    where
      refit : (e : PartEvaluation)
          → FitsAt setting (operators.For binder zero) (annotation_of (typed_expression source) ∷ annotation_of (typed_expression body) ∷ []) types situation.forest e
          → FitsAt setting (operators.For binder zero)
          (annotation_of (typed_expression source) ∷ annotation_of (typed_expression (made_step (plan_rule_setting s variables) place asks binder.variable)) ∷ []) types situation.forest e
      refit e fit = record {
        grown = fit.grown;
        honest = fit.honest;
        fits = subst (λ (us : List (Unit {0})). Fits s e.forest (carried_types variables (numbers_bound_by (operators.For binder zero) us) ++ types) e.bindings)
            (units_taken e.part (annotation_of (typed_expression source) ∷ annotation_of (typed_expression body) ∷ [])
            (annotation_of (typed_expression source) ∷ annotation_of (typed_expression (made_step (plan_rule_setting s variables) place asks binder.variable)) ∷ []) refl) fit.fits;
      }

      by_outcome : (o : Outcome Items)
          → AllByRecursion (FitsAt setting (operators.For binder zero) (annotation_of (typed_expression source) ∷ annotation_of (typed_expression body) ∷ []) types situation.forest)
          (evaluations_after o (λ xs left. turn_evaluations 1 (λ k x. item_bound binder.variable zero k x ++ situation.bindings) (meaning context (typed_expression body)) 1 xs left))
          → AllByRecursion (FitsAt setting (operators.For binder zero)
          (annotation_of (typed_expression source) ∷ annotation_of (typed_expression (made_step (plan_rule_setting s variables) place asks binder.variable)) ∷ []) types situation.forest)
          (evaluations_after o (λ xs left. turn_evaluations 1 (λ k x. item_bound binder.variable zero k x ++ situation.bindings)
          (denoted context (operators.Step axes.Descendant asks binder.variable) []) 1 xs left))
      by_outcome (gives xs left) h =
          turns_so (FitsAt setting (operators.For binder zero)
          (annotation_of (typed_expression source) ∷ annotation_of (typed_expression (made_step (plan_rule_setting s variables) place asks binder.variable)) ∷ []) types situation.forest)
          context axes.DescendantOrSelf axes.Descendant tests.Node asks binder.variable situation.bindings xs 1 left
          (subst (λ (d : Denotation). AllByRecursion (FitsAt setting (operators.For binder zero)
          (annotation_of (typed_expression source) ∷ annotation_of (typed_expression (made_step (plan_rule_setting s variables) place asks binder.variable)) ∷ []) types situation.forest)
          (turn_evaluations 1 (λ k x. item_bound binder.variable zero k x ++ situation.bindings) d 1 xs left)) (step_below context binder.variable body below)
          (all_so (FitsAt setting (operators.For binder zero) (annotation_of (typed_expression source) ∷ annotation_of (typed_expression body) ∷ []) types situation.forest)
          (FitsAt setting (operators.For binder zero)
          (annotation_of (typed_expression source) ∷ annotation_of (typed_expression (made_step (plan_rule_setting s variables) place asks binder.variable)) ∷ []) types situation.forest)
          (turn_evaluations 1 (λ k x. item_bound binder.variable zero k x ++ situation.bindings) (meaning context (typed_expression body)) 1 xs left) refit h))
      by_outcome (raises code) h = tt
      by_outcome wrong h = tt

  -- what `with_steps_below` gives
  descended_stands : (place outer : Place) (carried : Carried) (asks : Test) (operator : Operator) (source body other : PlanExpression) (types : Types)
      → StandsInPlan s variables known calls (At place outer carried operator (a_part source (a_part body no_parts))) types
      → descending_from (plan_rule_setting s variables) place asks (is_own_role carried.role) operator source body (binds_alone operator) ≡ Some other
      → StandsInPlan s variables known calls other types
  descended_stands place outer carried asks (operators.For binder zero) source body other types stands h =
      let guard = met (is_own_role carried.role && is_step_to_all_below binder.variable body)
      (loop_over_descendants (plan_rule_setting s variables) place asks (operators.For binder zero) source binder) other h in
      let below = (and_parts (is_own_role carried.role) (is_step_to_all_below binder.variable body) guard.0).1 in
      subst (λ (d : PlanExpression). StandsInPlan s variables known calls d types) guard.1
      (for_stands s variables known calls roles.Own place binder source (made_step (plan_rule_setting s variables) place asks binder.variable) types stands.stands.regular.0
      (record {
        stands = record { schemas = stands.stands.schemas; regular = stands.stands.regular.1.0; sound = stands.stands.sound.1.0; well_bound = stands.stands.well_bound.1.0 };
        positions = stands.positions.1.0;
        none_carries = stands.none_carries;
        none_typed = stands.none_typed;
      })
      (step_stands place asks binder.variable body types below (record {
        stands = record { schemas = stands.stands.schemas; regular = stands.stands.regular.1.1.0; sound = stands.stands.sound.1.1.0; well_bound = stands.stands.well_bound.1.1.0 };
        positions = stands.positions.1.1.0;
        none_carries = stands.none_carries;
        none_typed = none_typed_behind variables (binder.variable ∷ []) types stands.none_carries stands.none_typed;
      }))
      (loop_binds place asks binder source body types below stands.stands.well_bound.0))
  descended_stands place outer carried asks (operators.Let binder) source body other types stands h =
      let guard = met (is_own_role carried.role && is_step_to_all_below binder.variable body)
      (loop_over_descendants (plan_rule_setting s variables) place asks (operators.Let binder) source binder) other h in
      let below = (and_parts (is_own_role carried.role) (is_step_to_all_below binder.variable body) guard.0).1 in
      subst (λ (d : PlanExpression). StandsInPlan s variables known calls d types) guard.1
      (let_stands s variables known calls place binder source (made_step (plan_rule_setting s variables) place asks binder.variable) types
      (record {
        stands = record { schemas = stands.stands.schemas; regular = stands.stands.regular.1.0; sound = stands.stands.sound.1.0; well_bound = stands.stands.well_bound.1.0 };
        positions = stands.positions.1.0;
        none_carries = stands.none_carries;
        none_typed = stands.none_typed;
      })
      (step_stands place asks binder.variable body types below (record {
        stands = record { schemas = stands.stands.schemas; regular = stands.stands.regular.1.1.0; sound = stands.stands.sound.1.1.0; well_bound = stands.stands.well_bound.1.1.0 };
        positions = stands.positions.1.1.0;
        none_carries = stands.none_carries;
        none_typed = none_typed_behind variables (binder.variable ∷ []) types stands.none_carries stands.none_typed;
      }))
      (λ situation xs left e.
      (subst (λ (o : Outcome Items). AllByRecursion (FitsAt setting (operators.Let binder) (annotation_of (typed_expression source) ∷ annotation_of (typed_expression body) ∷ []) types situation.forest)
      (evaluations_after o (λ ys now. evaluation_of_part 1 ((binder.variable, ys) ∷ situation.bindings) now ∷ []))) e (stands.stands.well_bound.0 situation).1).0.fits))
  descended_stands place outer carried asks _ source body other types stands h = absurd (cc)

  descends_stand : (asks : Test) (e other : PlanExpression) (types : Types) → StandsInPlan s variables known calls e types
      → with_steps_below (plan_rule_setting s variables) asks e ≡ Some other → StandsInPlan s variables known calls other types
  descends_stand asks (At place outer carried operator (a_part source (a_part body no_parts))) other types stands h =
      descended_stands place outer carried asks operator source body other types stands h
  descends_stand asks _ other types stands h = absurd (cc)

  source_stands : (e : PlanExpression) (types : Types) → StandsInPlan s variables known calls e types → StandsInPlan s variables known calls (without_order e) types
  source_stands (At place outer carried operators.Order (a_part e no_parts)) types stands = record {
    stands = record { schemas = stands.stands.schemas; regular = stands.stands.regular.1.0; sound = stands.stands.sound.1.0; well_bound = stands.stands.well_bound.1.0 };
    positions = stands.positions.1.0;
    none_carries = stands.none_carries;
    none_typed = stands.none_typed;
  }
  source_stands e types stands = stands

-- what is put in order, where there is something
pub record IsOrderOf (s : SchemaSet) (place : Place) (found : Option PlanExpression) (other : PlanExpression) : Type 0 where
  pub operand : PlanExpression
  pub is_found : found ≡ Some operand
  pub is_made : made_operator s place operators.Order (one_part operand) ≡ other

order_of_found : (s : SchemaSet) (place : Place) (found : Option PlanExpression) (other : PlanExpression) → ordered_operand s place found ≡ Some other → IsOrderOf s place found other
order_of_found s place None other h = absurd (cc)
order_of_found s place (Some e) other h = record { operand = e; is_found = refl; is_made = cc }

pub over_source : (s : SchemaSet) (variables : Types) (place : Place) (variable : ℕ) (source body other : PlanExpression) → slashes_over (plan_rule_setting s variables) place variable source body ≡ Some other
    → (asks : Test) × IsOrderOf s place (with_steps_below (plan_rule_setting s variables) asks (without_order source)) other
over_source s variables place variable source (At p o c (operators.Step axes.Child asks number) no_parts) other h =
    let guard = given_if (nat_eq number variable) (ordered_operand s place (with_steps_below (plan_rule_setting s variables) asks (without_order source))) other h in
    (asks, order_of_found s place (with_steps_below (plan_rule_setting s variables) asks (without_order source)) other guard.1)
over_source s variables place variable source _ other h = absurd (cc)

pub slashes_hand_on : RuleHandsOn Slashes
slashes_hand_on s variables known calls
    (At place outer carried operators.Order (a_part (At p o c (operators.For binder zero) (a_part source (a_part body no_parts))) no_parts)) other types stands h =
    let over = given_if (is_own_role c.role) (slashes_over (plan_rule_setting s variables) place binder.variable source body) other h in
    let order = over_source s variables place binder.variable source body other over.1 in
    let from : StandsInPlan s variables known calls source types = record {
      stands = record { schemas = stands.stands.schemas; regular = stands.stands.regular.1.0.1.0; sound = stands.stands.sound.1.0.1.0; well_bound = stands.stands.well_bound.1.0.1.0 };
      positions = stands.positions.1.0.1.0;
      none_carries = stands.none_carries;
      none_typed = stands.none_typed;
    } in
    let operand = descends_stand s variables known calls order.0 (without_order source) order.1.operand types (source_stands s variables known calls source types from) order.1.is_found in
    subst (λ (d : PlanExpression). StandsInPlan s variables known calls d types) order.1.is_made
    (order_stands s variables known calls place order.1.operand types carried.kind operand
    (λ situation.
    let setting : Setting = plan_setting s variables known calls in
    let e : PlanExpression = At place outer carried operators.Order (a_part (At p o c (operators.For binder zero) (a_part source (a_part body no_parts))) no_parts) in
    subst (λ (out : Outcome Items). Keeps setting situation.forest carried.kind out)
    (sym (ap (λ (d : PlanExpression). meaning (context_of setting) (typed_expression d) situation.bindings situation.forest) order.1.is_made
    ∙ slashes_keep setting variables e other types stands.stands h situation))
    (stands.stands.sound.0 situation)))
slashes_hand_on s variables known calls _ other types stands h = absurd (cc)
