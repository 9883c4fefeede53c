-- The `let` of a decided switch stands in the plan where the switch did.
use Rattle.std.proofs.Common.{◌≡◌, ℕ, Bool, List, [], ◌∷◌, ◌++◌, ◌∙◌, ap, subst, if◌then◌else◌}
use Rattle.std.specs.List.{AllByRecursion}
use Rattle.gx_types.specs.SchemaSet.{SchemaSet}
use Rattle.gx_types.specs.SequenceType.{SequenceType}
use Rattle.gx_include.specs.Decision.{is_included}
use Rattle.gx_model.specs.Item.{Items}
use Rattle.gx_core.specs.declared.operator.Operator.TheVariants as operators
use Rattle.gx_core.specs.declared.signature.FunctionSignature.{FunctionSignature}
use Rattle.gx_core.specs.Bindings.{Types, position_bound, position_numbers}
use Rattle.gx_core.specs.Evaluations.{evaluation_of_part, evaluations_after, branch_evaluations}
use Rattle.gx_core.specs.Expression.{At, no_parts, a_part, each_of, annotation_of}
use Rattle.gx_core.specs.Meaning.{CallOutcomes, meaning, meanings}
use Rattle.gx_core.specs.Outcome.{Outcome}
use Rattle.gx_core.specs.Soundness.{Setting, context_of, Keeps}
use Rattle.gx_core.proofs.SoundQueries.{keeps_its_type}
use Rattle.gx_plan.specs.Plan.{PlanExpression, kind_carried, typed_expression, typed_parts}
use Rattle.gx_plan.specs.Fitting.{FitsAt}
use Rattle.gx_rules.specs.Rules.{made_let, plain_binder, Decided}
use Rattle.gx_rule_laws.specs.QuietValues.{carried_types, plan_setting}
use Rattle.gx_rule_laws.specs.KeepingSoundness.{StandsInPlan, RuleHandsOn}
use Rattle.gx_rule_laws.proofs.GuardLemmas.{met}
use Rattle.gx_rule_laws.proofs.DecidedCases.{is_instance_where}
use Rattle.gx_rule_laws.proofs.LetsStand.{let_stands, same_carried, case_fits_let}
use Rattle.gx_rule_laws.proofs.SoundParts.{kind_of}
use Rattle.gx_rule_laws.proofs.Rewriting.{none_typed_behind}

-- the branch that a switch chooses, in the scope of a `let`
branch_stands : (s : SchemaSet) (variables : Types) (known : List FunctionSignature) (calls : CallOutcomes) (number : ℕ) (e : PlanExpression) (types : Types)
    → StandsInPlan s variables known calls e (carried_types variables (position_numbers number) ++ types) → StandsInPlan s variables known calls e
    (carried_types variables (number ∷ []) ++ types)
branch_stands s variables known calls number e types h =
    subst (λ (us : Types). StandsInPlan s variables known calls e (us ++ types)) (same_carried variables number h.none_carries) h

pub decided_hands_on : RuleHandsOn Decided
decided_hands_on s variables known calls (At place outer carried (operators.Switch [] default) (a_part operand (a_part branch no_parts))) other types stands h =
    let same : made_let s place (plain_binder default place) operand branch ≡ other = cc in
    subst (λ (d : PlanExpression). StandsInPlan s variables known calls d types) same
    (let_stands s variables known calls place (plain_binder default place) operand branch types
    (record {
      stands = record { schemas = stands.stands.schemas; regular = stands.stands.regular.1.0; sound = stands.stands.sound.1.0; well_bound = stands.stands.well_bound.1.0 };
      positions = stands.positions.1.0;
      none_carries = stands.none_carries;
      none_typed = stands.none_typed;
    })
    (branch_stands s variables known calls default branch types (record {
      stands = record { schemas = stands.stands.schemas; regular = stands.stands.regular.1.1.0; sound = stands.stands.sound.1.1.0; well_bound = stands.stands.well_bound.1.1.0 };
      positions = stands.positions.1.1.0;
      none_carries = stands.none_carries;
      none_typed = none_typed_behind variables (position_numbers default) types stands.none_carries stands.none_typed;
    }))
    (λ situation xs left given.
    let d = meaning (context_of (plan_setting s variables known calls)) (typed_expression branch) in
    let ts : List SequenceType = annotation_of (typed_expression operand) ∷ annotation_of (typed_expression branch) ∷ [] in
    let all = subst (λ (o : Outcome Items). AllByRecursion (FitsAt (plan_setting s variables known calls) (operators.Switch [] default) ts types situation.forest)
    (evaluations_after o (λ ys now. branch_evaluations s [] default 1 (d ∷ []) ys situation.bindings now))) given (stands.stands.well_bound.0 situation).1 in
    case_fits_let s variables left types default xs situation.bindings stands.none_carries stands.none_typed all.0.fits))
decided_hands_on s variables known calls (At place outer carried (operators.Switch (case ∷ cases) default) (a_part operand (a_part branch branches))) other types stands h =
    let guard = met (is_included s (kind_carried operand) case.kind) (made_let s place (plain_binder case.variable place) operand branch) other h in
    subst (λ (d : PlanExpression). StandsInPlan s variables known calls d types) guard.1
    (let_stands s variables known calls place (plain_binder case.variable place) operand branch types
    (record {
      stands = record { schemas = stands.stands.schemas; regular = stands.stands.regular.1.0; sound = stands.stands.sound.1.0; well_bound = stands.stands.well_bound.1.0 };
      positions = stands.positions.1.0;
      none_carries = stands.none_carries;
      none_typed = stands.none_typed;
    })
    (branch_stands s variables known calls case.variable branch types (record {
      stands = record { schemas = stands.stands.schemas; regular = stands.stands.regular.1.1.0; sound = stands.stands.sound.1.1.0; well_bound = stands.stands.well_bound.1.1.0 };
      positions = stands.positions.1.1.0;
      none_carries = stands.none_carries;
      none_typed = none_typed_behind variables (position_numbers case.variable) types stands.none_carries stands.none_typed;
    }))
    (λ situation xs left given.
    let setting : Setting = plan_setting s variables known calls in
    let d = meaning (context_of setting) (typed_expression branch) in
    let ds = meanings (context_of setting) (typed_parts branches) in
    let ts : List SequenceType = annotation_of (typed_expression operand) ∷ annotation_of (typed_expression branch) ∷ each_of annotation_of (typed_parts branches) in
    let all = subst (λ (o : Outcome Items). AllByRecursion (FitsAt setting (operators.Switch (case ∷ cases) default) ts types situation.forest)
    (evaluations_after o (λ ys now. branch_evaluations s (case ∷ cases) default 1 (d ∷ ds) ys situation.bindings now))) given (stands.stands.well_bound.0 situation).1 in
    let keeps = subst (λ (o : Outcome Items). Keeps setting situation.forest (annotation_of (typed_expression operand)) o) given
    (keeps_its_type setting (typed_expression operand) types stands.stands.sound.1.0 situation) in
    let instance = is_instance_where s left (annotation_of (typed_expression operand)) case.kind xs stands.stands.schemas stands.stands.regular.0.0 keeps.honest
    (ap (λ (t : SequenceType). is_included s t case.kind) (kind_of operand) ∙ guard.0) keeps.fact in
    let chosen = subst (λ (b : Bool). AllByRecursion (FitsAt setting (operators.Switch (case ∷ cases) default) ts types situation.forest)
    (if b then evaluation_of_part 1 (position_bound case.variable xs ++ situation.bindings) left ∷ []
    else branch_evaluations s cases default 2 ds xs situation.bindings left)) instance all in
    case_fits_let s variables left types case.variable xs situation.bindings stands.none_carries stands.none_typed chosen.0.fits))
decided_hands_on s variables known calls _ other types stands h = absurd (cc)
