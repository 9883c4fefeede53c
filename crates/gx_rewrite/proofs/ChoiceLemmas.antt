-- What becomes of switches, calls and typed values.
use Rattle.std.proofs.Common.{◌≡◌, ℕ, true, false, List, [], ◌∷◌, map, Option, None, Some, unwrap_or, refl, ◌∙◌, ap}
use Rattle.gx_include.specs.Decision.{is_included}
use Rattle.gx_funcs.specs.declared.function.Function.{Function}
use Rattle.gx_funcs.specs.declared.function.Function.TheVariants as functions
use Rattle.gx_core.specs.declared.cases.TypeCase.{TypeCase}
use Rattle.gx_base.specs.declared.place.Place.{Place}
use Rattle.gx_core.specs.declared.operator.Operator.TheVariants as operators
use Rattle.gx_core.specs.Expression.{At, a_part, all_parts, each_of, one_part}
use Rattle.gx_plan.specs.declared.plan.Carried.{Carried}
use Rattle.gx_plan.specs.Plan.{PlanExpression, kind_carried}
use Rattle.gx_rules.specs.Guards.{is_flat}
use Rattle.gx_rules.specs.Rules.{RuleSetting, if_guarded, made_let, plain_binder, any_atomic_values}
use Rattle.gx_rewrite.specs.Rewriting.{one_or_other, rewritten_at}
use Rattle.gx_rewrite.specs.Shapes.{is_decided, chosen_variable, is_idle_call}
use Rattle.gx_rewrite.proofs.Forms.{each_of_all}

pub decided_applies : (setting : RuleSetting) (place outer : Place) (carried : Carried) (operand : PlanExpression) (cases : List TypeCase) (default : ℕ)
    (branches : List PlanExpression) (branch : PlanExpression) (others : List PlanExpression) → branches ≡ branch ∷ others
    → is_decided setting.schemas (kind_carried operand) cases branches ≡ true
    → rewritten_at setting (At place outer carried (operators.Switch cases default) (a_part operand (all_parts branches)))
    ≡ made_let setting.schemas place (plain_binder (chosen_variable cases default) place) operand branch
decided_applies setting place outer carried operand [] default (branch ∷ []) first others e h =
    ap (λ (es : List PlanExpression). made_let setting.schemas place (plain_binder default place) operand (unwrap_or (first_in es) branch)) e
  where
    first_in : List PlanExpression → Option PlanExpression
    first_in [] = None
    first_in (x ∷ xs) = Some x
decided_applies setting place outer carried operand [] default (branch ∷ another ∷ more) first others e h = absurd (cc)
decided_applies setting place outer carried operand [] default [] first others e h = absurd (cc)
decided_applies setting place outer carried operand (case ∷ cases) default [] first others e h = absurd (cc)
decided_applies setting place outer carried operand (case ∷ cases) default (branch ∷ more) first others e h =
    ap (λ b. unwrap_or (one_or_other (one_or_other (if_guarded b (made_let setting.schemas place (plain_binder case.variable place) operand branch)) None) None)
    (At place outer carried (operators.Switch (case ∷ cases) default) (a_part operand (all_parts (branch ∷ more))))) h
    ∙ ap (λ (es : List PlanExpression). made_let setting.schemas place (plain_binder case.variable place) operand (unwrap_or (first_in es) branch)) e
  where
    first_in : List PlanExpression → Option PlanExpression
    first_in [] = None
    first_in (x ∷ xs) = Some x

pub switch_stays : (setting : RuleSetting) (place outer : Place) (carried : Carried) (operand : PlanExpression) (cases : List TypeCase) (default : ℕ)
    (branches : List PlanExpression) → is_decided setting.schemas (kind_carried operand) cases branches ≡ false
    → rewritten_at setting (At place outer carried (operators.Switch cases default) (a_part operand (all_parts branches)))
    ≡ At place outer carried (operators.Switch cases default) (a_part operand (all_parts branches))
switch_stays setting place outer carried operand [] default [] h = refl
switch_stays setting place outer carried operand [] default (branch ∷ []) h = absurd (cc)
switch_stays setting place outer carried operand [] default (branch ∷ another ∷ more) h = refl
switch_stays setting place outer carried operand (case ∷ cases) default [] h = refl
switch_stays setting place outer carried operand (case ∷ cases) default (branch ∷ more) h =
    ap (λ b. unwrap_or (one_or_other (one_or_other (if_guarded b (made_let setting.schemas place (plain_binder case.variable place) operand branch)) None) None)
    (At place outer carried (operators.Switch (case ∷ cases) default) (a_part operand (all_parts (branch ∷ more))))) h

pub facts_of_branches : (operand : PlanExpression) (branches : List PlanExpression)
    → each_of is_flat (a_part operand (all_parts branches)) ≡ is_flat operand ∷ map is_flat branches
facts_of_branches operand branches = ap (λ bs. is_flat operand ∷ bs) (each_of_all branches)

pub idle_call_goes : (setting : RuleSetting) (place outer : Place) (carried : Carried) (function : Function) (arguments : List PlanExpression)
    (argument : PlanExpression) (others : List PlanExpression) → arguments ≡ argument ∷ others
    → is_idle_call setting.schemas function arguments ≡ true
    → rewritten_at setting (At place outer carried (operators.Call function) (all_parts arguments)) ≡ argument
idle_call_goes setting place outer carried functions.Boolean (e ∷ []) argument others is h =
    ap (λ b. unwrap_or (one_or_other (if_guarded b e) None) (At place outer carried (operators.Call functions.Boolean) (one_part e))) h
    ∙ ap (λ (es : List PlanExpression). unwrap_or (first_in es) e) is
  where
    first_in : List PlanExpression → Option PlanExpression
    first_in [] = None
    first_in (x ∷ xs) = Some x
idle_call_goes setting place outer carried _ _ argument others is h = absurd (cc)

pub call_stays : (setting : RuleSetting) (place outer : Place) (carried : Carried) (function : Function) (arguments : List PlanExpression)
    → is_idle_call setting.schemas function arguments ≡ false
    → rewritten_at setting (At place outer carried (operators.Call function) (all_parts arguments))
    ≡ At place outer carried (operators.Call function) (all_parts arguments)
call_stays setting place outer carried functions.Boolean (e ∷ []) h =
    ap (λ b. unwrap_or (one_or_other (if_guarded b e) None) (At place outer carried (operators.Call functions.Boolean) (one_part e))) h
call_stays setting place outer carried functions.Boolean [] h = refl
call_stays setting place outer carried functions.Boolean (e ∷ d ∷ more) h = refl
call_stays setting place outer carried _ arguments h = refl

pub facts_of_arguments : (arguments : List PlanExpression) → each_of is_flat (all_parts arguments) ≡ map is_flat arguments
facts_of_arguments arguments = each_of_all arguments

pub idle_data_goes : (setting : RuleSetting) (place outer : Place) (carried : Carried) (e : PlanExpression)
    → is_included setting.schemas (kind_carried e) any_atomic_values ≡ true
    → rewritten_at setting (At place outer carried operators.DataOf (one_part e)) ≡ e
idle_data_goes setting place outer carried e h =
    ap (λ b. unwrap_or (one_or_other (if_guarded b e) None) (At place outer carried operators.DataOf (one_part e))) h

pub data_stays : (setting : RuleSetting) (place outer : Place) (carried : Carried) (e : PlanExpression)
    → is_included setting.schemas (kind_carried e) any_atomic_values ≡ false
    → rewritten_at setting (At place outer carried operators.DataOf (one_part e)) ≡ At place outer carried operators.DataOf (one_part e)
data_stays setting place outer carried e h =
    ap (λ b. unwrap_or (one_or_other (if_guarded b e) None) (At place outer carried operators.DataOf (one_part e))) h
