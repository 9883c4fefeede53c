-- What becomes of an operand in document order.
use Rattle.std.proofs.Common.{◌≡◌, ℕ, zero, suc, nat_eq, Bool, true, false, ◌&&◌, ◌||◌, Option, None, Some, unwrap_or, option_map, Result, Ok, Err, IfOk, refl, sym, ◌∙◌, ap, if◌then◌else◌}
use Rattle.gx_core.specs.declared.expression.Form.{Form}
use Rattle.gx_core.specs.declared.expression.Form.TheVariants.{Step}
use Rattle.gx_core.specs.ExpressionView.{operator_of, parts_of}
use Rattle.gx_types.specs.declared.step.Axis.{Axis}
use Rattle.gx_types.specs.declared.step.Axis.TheVariants as axes
use Rattle.gx_types.specs.declared.step.Test.{Test}
use Rattle.gx_base.specs.declared.place.Place.{Place}
use Rattle.gx_core.specs.declared.expression.Binder.{Binder}
use Rattle.gx_core.specs.declared.operator.Operator.{Operator}
use Rattle.gx_core.specs.declared.operator.Operator.TheVariants as operators
use Rattle.gx_core.specs.Expression.{At, no_parts, a_part, annotation_of, one_part, two_parts}
use Rattle.gx_plan.specs.declared.plan.Carried.{Carried}
use Rattle.gx_plan.specs.Plan.{PlanExpression, kind_carried}
use Rattle.gx_static.specs.Rule.{is_at_most_one}
use Rattle.gx_rules.specs.Guards.{is_own_role, is_sorted, is_flat}
use Rattle.gx_rules.specs.Rules.{RuleSetting, if_guarded, made_operator, slashes, slashes_over, ordered_operand, with_steps_below, descending_from, loop_over_descendants, binds_alone, without_order}
use Rattle.gx_rewrite.specs.Rewriting.{one_or_other, simplified, rewritten_at}
use Rattle.gx_rewrite.specs.Shapes.{is_in_order, is_slashed, is_child_step_from, steps_to_all_below, reaches_all_below}

needless : (a b c : Bool) (e : PlanExpression) → a || (b || c) ≡ true → one_or_other (if_guarded a e) (one_or_other (if_guarded b e) (if_guarded c e)) ≡ Some e
needless true b c e h = refl
needless false true c e h = refl
needless false false true e h = refl
needless false false false e h = absurd (cc)

needed : (a b c : Bool) (e : PlanExpression) → a || (b || c) ≡ false → one_or_other (if_guarded a e) (one_or_other (if_guarded b e) (if_guarded c e)) ≡ None
needed true b c e h = absurd (cc)
needed false true c e h = absurd (cc)
needed false false true e h = absurd (cc)
needed false false false e h = refl

ordered_by : Place → Place → Carried → PlanExpression → PlanExpression
ordered_by place outer carried e = At place outer carried operators.Order (one_part e)

simple_order : (setting : RuleSetting) (place outer : Place) (carried : Carried) (e : PlanExpression) → is_in_order e ≡ true
    → simplified setting (At place outer carried operators.Order (one_part e)) ≡ Some e
simple_order setting place outer carried e h =
    ap (λ found. one_or_other found None) (needless (is_at_most_one (kind_carried e)) (is_sorted e) (is_flat e) e h)

no_simple_order : (setting : RuleSetting) (place outer : Place) (carried : Carried) (e : PlanExpression) → is_in_order e ≡ false
    → simplified setting (At place outer carried operators.Order (one_part e)) ≡ None
no_simple_order setting place outer carried e h =
    ap (λ found. one_or_other found None) (needed (is_at_most_one (kind_carried e)) (is_sorted e) (is_flat e) e h)

-- it is in order already
pub order_goes : (setting : RuleSetting) (place outer : Place) (carried : Carried) (e : PlanExpression) → is_in_order e ≡ true
    → rewritten_at setting (At place outer carried operators.Order (one_part e)) ≡ e
order_goes setting place outer carried e h =
    ap (λ found. unwrap_or (one_or_other found (option_map (λ other. unwrap_or (simplified setting other) other)
    (slashes setting (At place outer carried operators.Order (one_part e))))) (At place outer carried operators.Order (one_part e)))
    (simple_order setting place outer carried e h)

descends_not : (setting : RuleSetting) (place : Place) (asks : Test) (is_own : Bool) (operator : Operator) (source body : PlanExpression)
    (binder : Option Binder) → is_own && reaches_all_below binder body ≡ false
    → descending_from setting place asks is_own operator source body binder ≡ None
descends_not setting place asks is_own operator source body None h = refl
descends_not setting place asks is_own operator source body (Some binder) h =
    ap (λ b. if_guarded b (loop_over_descendants setting place asks operator source binder)) h

no_descending : (setting : RuleSetting) (asks : Test) (e : PlanExpression) → steps_to_all_below e ≡ false → with_steps_below setting asks e ≡ None
no_descending setting asks (At place outer carried operator (a_part source (a_part body no_parts))) h =
    descends_not setting place asks (is_own_role carried.role) operator source body (binds_alone operator) h
no_descending setting asks (At place outer carried operator _) h = refl

if_false : (test more : Bool) (found : Option PlanExpression) → test && more ≡ false → (more ≡ false → found ≡ None)
    → (if test then found else None) ≡ None
if_false true more found h k = k h
if_false false more found h k = refl

no_step : (setting : RuleSetting) (place : Place) (variable : ℕ) (source body : PlanExpression)
    → is_child_step_from variable body && steps_to_all_below (without_order source) ≡ false → slashes_over setting place variable source body ≡ None
no_step setting place variable source (At p o c (operators.Step axes.Child asks number) no_parts) h =
    if_false (nat_eq number variable) (steps_to_all_below (without_order source)) _ h
    (λ k. ap (ordered_operand setting.schemas place) (no_descending setting asks (without_order source) k))
no_step setting place variable source (At p o c _ _) h = refl

no_slashes : (setting : RuleSetting) (place outer : Place) (carried : Carried) (e : PlanExpression) → is_slashed e ≡ false
    → slashes setting (At place outer carried operators.Order (one_part e)) ≡ None
no_slashes setting place outer carried (At p o c (operators.For binder zero) (a_part source (a_part body no_parts))) h =
    if_false (is_own_role c.role) _ _ h (λ k. no_step setting place binder.variable source body k)
no_slashes setting place outer carried (At p o c _ _) h = refl

-- order is needed, and is not that of steps to descendants
pub order_stays : (setting : RuleSetting) (place outer : Place) (carried : Carried) (e : PlanExpression) → is_in_order e ≡ false
    → is_slashed e ≡ false
    → rewritten_at setting (At place outer carried operators.Order (one_part e)) ≡ At place outer carried operators.Order (one_part e)
order_stays setting place outer carried e h k =
    ap (λ found. unwrap_or (one_or_other found (option_map (λ other. unwrap_or (simplified setting other) other)
    (slashes setting (At place outer carried operators.Order (one_part e))))) (At place outer carried operators.Order (one_part e)))
    (no_simple_order setting place outer carried e h)
    ∙ ap (λ found. unwrap_or (option_map (λ other. unwrap_or (simplified setting other) other) found)
    (At place outer carried operators.Order (one_part e)))
    (no_slashes setting place outer carried e k)

below_in_order : (setting : RuleSetting) (place : Place) (l : PlanExpression) (in_order_already : Bool) → is_in_order l ≡ in_order_already
    → unwrap_or (simplified setting (made_operator setting.schemas place operators.Order (one_part l))) (made_operator setting.schemas place operators.Order (one_part l))
    ≡ (if in_order_already then l else made_operator setting.schemas place operators.Order (one_part l))
below_in_order setting place l true h =
    ap (λ found. unwrap_or found (made_operator setting.schemas place operators.Order (one_part l))) (simple_order setting place place (annotation_of (made_operator setting.schemas place operators.Order (one_part l))) l h)
below_in_order setting place l false h =
    ap (λ found. unwrap_or found (made_operator setting.schemas place operators.Order (one_part l))) (no_simple_order setting place place (annotation_of (made_operator setting.schemas place operators.Order (one_part l))) l h)

-- order is needed, and is that of steps to descendants
pub order_descends : (setting : RuleSetting) (place outer : Place) (carried : Carried) (e l : PlanExpression) → is_in_order e ≡ false
    → slashes setting (At place outer carried operators.Order (one_part e)) ≡ ordered_operand setting.schemas place (Some l)
    → rewritten_at setting (At place outer carried operators.Order (one_part e))
    ≡ (if is_in_order l then l else made_operator setting.schemas place operators.Order (one_part l))
order_descends setting place outer carried e l h k =
    ap (λ found. unwrap_or (one_or_other found (option_map (λ other. unwrap_or (simplified setting other) other)
    (slashes setting (At place outer carried operators.Order (one_part e))))) (At place outer carried operators.Order (one_part e)))
    (no_simple_order setting place outer carried e h)
    ∙ ap (λ found. unwrap_or (option_map (λ other. unwrap_or (simplified setting other) other) found)
    (At place outer carried operators.Order (one_part e))) k
    ∙ below_in_order setting place l (is_in_order l) refl

-- ---- what a loop of child steps over all below is made of

both_hold : (a b : Bool) → a && b ≡ true → (a ≡ true) × (b ≡ true)
both_hold true b h = (refl, h)
both_hold false b h = absurd (cc)

pub slashed_source : (place outer : Place) (carried : Carried) (binder : Binder) (position : ℕ) (source body : PlanExpression)
    → is_slashed (At place outer carried (operators.For binder position) (two_parts source body)) ≡ true
    → steps_to_all_below (without_order source) ≡ true
slashed_source place outer carried binder zero source body h =
    (both_hold (is_child_step_from binder.variable body) _ (both_hold (is_own_role carried.role) _ h).1).1
slashed_source place outer carried binder (suc n) source body h = absurd (cc)

pub slashed_step : (place outer : Place) (carried : Carried) (binder : Binder) (position : ℕ) (source body : PlanExpression)
    → is_slashed (At place outer carried (operators.For binder position) (two_parts source body)) ≡ true
    → is_child_step_from binder.variable body ≡ true
slashed_step place outer carried binder zero source body h =
    (both_hold (is_child_step_from binder.variable body) _ (both_hold (is_own_role carried.role) _ h).1).0
slashed_step place outer carried binder (suc n) source body h = absurd (cc)

if_holds : (test : Bool) (found : Option PlanExpression) → test ≡ true → (if test then found else None) ≡ found
if_holds true found h = refl
if_holds false found h = absurd (cc)

child_over : (setting : RuleSetting) (place : Place) (variable : ℕ) (source l : PlanExpression) (p o : Place) (c : Carried) (axis : Axis) (asks : Test)
    (number : ℕ) → is_child_step_from variable (At p o c (operators.Step axis asks number) no_parts) ≡ true
    → with_steps_below setting asks (without_order source) ≡ Some l
    → slashes_over setting place variable source (At p o c (operators.Step axis asks number) no_parts) ≡ ordered_operand setting.schemas place (Some l)
child_over setting place variable source l p o c axes.Child asks number h k =
    if_holds (nat_eq number variable) _ h ∙ ap (ordered_operand setting.schemas place) k
child_over setting place variable source l p o c _ asks number h k = absurd (cc)

pub slashes_by : (setting : RuleSetting) (place outer : Place) (carried : Carried) (p o : Place) (c : Carried) (binder : Binder) (position : ℕ)
    (source body l : PlanExpression) (bp bo : Place) (bc : Carried) (axis : Axis) (asks : Test) (number : ℕ)
    → is_slashed (At p o c (operators.For binder position) (two_parts source body)) ≡ true
    → body ≡ At bp bo bc (operators.Step axis asks number) no_parts → with_steps_below setting asks (without_order source) ≡ Some l
    → slashes setting (At place outer carried operators.Order (one_part (At p o c (operators.For binder position) (two_parts source body))))
    ≡ ordered_operand setting.schemas place (Some l)
slashes_by setting place outer carried p o c binder zero source body l bp bo bc axis asks number h is k =
    if_holds (is_own_role c.role) _ (both_hold (is_own_role c.role) _ h).0
    ∙ ap (slashes_over setting place binder.variable source) is
    ∙ child_over setting place binder.variable source l bp bo bc axis asks number
    (ap (is_child_step_from binder.variable) (sym is) ∙ slashed_step p o c binder zero source body h) k
slashes_by setting place outer carried p o c binder (suc n) source body l bp bo bc axis asks number h is k = absurd (cc)

-- ---- for the functions that take such a loop apart

pub if_ok_gives : {A E : Type 0} (result : Result A E) (Given Wanted : A → Type 0) → ((a : A) → Given a → Wanted a) → IfOk result Given
    → IfOk result Wanted
if_ok_gives (Ok a) Given Wanted k h = k a h
if_ok_gives (Err e) Given Wanted k h = tt

pub no_step_form : (variable : ℕ) (place outer : Place) (carried : Carried) (form : Form Carried)
    → is_child_step_from variable (At place outer carried (operator_of form) (parts_of form)) ≡ true
    → ((axis : Axis) (asks : Test) (number : ℕ) → form ≡ Step axis asks number → ⊥) → ⊥
no_step_form variable place outer carried (Step axis asks number) h k = k axis asks number refl
no_step_form variable place outer carried _ h k = absurd (cc)
