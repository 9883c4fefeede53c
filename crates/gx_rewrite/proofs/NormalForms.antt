-- What becomes of an operator whose parts are normal: rules lead to it, and no rule applies to it.
use Rattle.std.proofs.Common.{◌≡◌, ℕ, zero, suc, nat_eq, Bool, true, false, ◌&&◌, Option, None, Some, unwrap_or, option_map, [], ◌∷◌, refl, sym, ◌∙◌, ap, subst, if◌then◌else◌, ◌⊎◌, inl, inr}
use Rattle.gx_base.specs.declared.place.Place.{Place}
use Rattle.gx_types.specs.SchemaSet.{SchemaSet}
use Rattle.gx_types.specs.declared.step.Axis.TheVariants as axes
use Rattle.gx_types.specs.declared.step.Test.{Test}
use Rattle.gx_funcs.specs.declared.function.Function.TheVariants as functions
use Rattle.gx_core.specs.declared.expression.Binder.{Binder}
use Rattle.gx_core.specs.declared.expression.BinaryOp.TheVariants as binary
use Rattle.gx_core.specs.declared.operator.Operator.{Operator}
use Rattle.gx_core.specs.declared.operator.Operator.TheVariants as operators
use Rattle.gx_core.specs.Expression.{At, Parts, no_parts, a_part, one_part, two_parts}
use Rattle.gx_plan.specs.declared.plan.Carried.{Carried}
use Rattle.gx_plan.specs.Plan.{PlanExpression, kind_carried}
use Rattle.gx_rules.specs.Guards.{is_own_role}
use Rattle.gx_rules.specs.Rules.{RuleSetting, RewritingRule, One, Sorted, Flat, Slashes, Single, Decided, Idle, Joins, rewritten_by, if_guarded, made_operator, made_let, made_step, plain_binder}
use Rattle.gx_rules.specs.Rules.{one, order_of_sorted, flat, slashes, slashes_over, ordered_operand, with_steps_below, descending_from, loop_over_descendants, binds_alone, without_order}
use Rattle.gx_rules.specs.Rules.{single_loop, with_position, first_position, occurs_once, decided_switch, idle, join, join_by_loop, join_by_test, join_by_keys, marked_loops, Loop}
use Rattle.gx_rules.specs.Normal.{StepsTo, PlanReaches, IsNormal, AreNormal}
use Rattle.gx_rewrite.specs.Rewriting.{one_or_other, without_need_of_order, simplified, rewritten_at}
use Rattle.gx_rewrite.proofs.Reaching.{stays, by_one, then_reaches, by_rule}

-- ---- options

some_is : (e other : PlanExpression) → Some e ≡ Some other → e ≡ other
some_is e other h = ap (λ found. unwrap_or found e) h

-- what a guard lets through
met : (guard : Bool) (e other : PlanExpression) → if_guarded guard e ≡ Some other → e ≡ other
met true e other h = some_is e other h
met false e other h = absurd (cc)

guard_is_met : (guard : Bool) (e other : PlanExpression) → if_guarded guard e ≡ Some other → guard ≡ true
guard_is_met true e other h = refl
guard_is_met false e other h = absurd (cc)

guard_fails : (guard : Bool) (e : PlanExpression) → if_guarded guard e ≡ None → guard ≡ false
guard_fails true e h = absurd (cc)
guard_fails false e h = refl

if_some : (test : Bool) (found : Option PlanExpression) (other : PlanExpression) → (if test then found else None) ≡ Some other → found ≡ Some other
if_some true found other h = h
if_some false found other h = absurd (cc)

none_of : (first second : Option PlanExpression) → one_or_other first second ≡ None → (first ≡ None) × (second ≡ None)
none_of None second h = (refl, h)
none_of (Some e) second h = absurd (cc)

some_of : (first second : Option PlanExpression) (e : PlanExpression) → one_or_other first second ≡ Some e → (first ≡ Some e) ⊎ (second ≡ Some e)
some_of None second e h = inr h
some_of (Some found) second e h = inl h

first_holds : (a b : Bool) → a && b ≡ true → a ≡ true
first_holds true b h = refl
first_holds false b h = absurd (cc)

second_fails : (a b : Bool) → a ≡ true → a && b ≡ false → b ≡ false
second_fails true b h k = k
second_fails false b h k = absurd (cc)

-- ---- no rule applies

all_none : (setting : RuleSetting) (e : PlanExpression) → simplified setting e ≡ None → slashes setting e ≡ None
    → (rule : RewritingRule) → rewritten_by setting rule e ≡ None
all_none setting e s d rule = no_rule rule
  where
    schemas : SchemaSet
    schemas = setting.schemas

    behind : Option PlanExpression
    behind = one_or_other (single_loop schemas e) (one_or_other (join schemas e) (one_or_other (decided_switch schemas e) (idle schemas e)))

    order_kept : (without_need_of_order e ≡ None) × (behind ≡ None)
    order_kept = none_of (without_need_of_order e) behind s

    not_one : (one e ≡ None) × (one_or_other (order_of_sorted e) (flat e) ≡ None)
    not_one = none_of (one e) (one_or_other (order_of_sorted e) (flat e)) order_kept.0

    not_sorted : (order_of_sorted e ≡ None) × (flat e ≡ None)
    not_sorted = none_of (order_of_sorted e) (flat e) not_one.1

    not_single : (single_loop schemas e ≡ None) × (one_or_other (join schemas e) (one_or_other (decided_switch schemas e) (idle schemas e)) ≡ None)
    not_single = none_of (single_loop schemas e) (one_or_other (join schemas e) (one_or_other (decided_switch schemas e) (idle schemas e))) order_kept.1

    not_joined : (join schemas e ≡ None) × (one_or_other (decided_switch schemas e) (idle schemas e) ≡ None)
    not_joined = none_of (join schemas e) (one_or_other (decided_switch schemas e) (idle schemas e)) not_single.1

    not_decided : (decided_switch schemas e ≡ None) × (idle schemas e ≡ None)
    not_decided = none_of (decided_switch schemas e) (idle schemas e) not_joined.1

    no_rule : (rule : RewritingRule) → rewritten_by setting rule e ≡ None
    no_rule One = not_one.0
    no_rule Sorted = not_sorted.0
    no_rule Flat = not_sorted.1
    no_rule Slashes = d
    no_rule Single = not_single.0
    no_rule Decided = not_decided.0
    no_rule Idle = not_decided.1
    no_rule Joins = not_joined.0

-- ---- what rules make

let_is_normal : (setting : RuleSetting) (place : Place) (binder : Binder) (value body : PlanExpression) → IsNormal setting value
    → IsNormal setting body → IsNormal setting (made_let setting.schemas place binder value body)
let_is_normal setting place binder value body v b =
    (all_none setting (made_let setting.schemas place binder value body) refl refl, (v, (b, tt)))

position_is_normal : (setting : RuleSetting) (place : Place) (position : ℕ) (body : PlanExpression) → IsNormal setting body
    → IsNormal setting (with_position setting.schemas place position body)
position_is_normal setting place zero body b = b
position_is_normal setting place (suc n) body b =
    let_is_normal setting place (plain_binder (suc n) place) (first_position place) body (all_none setting (first_position place) refl refl, tt) b

-- ---- what each rule gives is normal, where the parts are

part_is_normal : (setting : RuleSetting) (guard : Bool) (e other : PlanExpression) → IsNormal setting e → if_guarded guard e ≡ Some other
    → IsNormal setting other
part_is_normal setting guard e other n h = subst (IsNormal setting) (met guard e other h) n

one_is_normal : (setting : RuleSetting) (place outer : Place) (carried : Carried) (operator : Operator) (parts : Parts Carried) (other : PlanExpression)
    → AreNormal setting parts → one (At place outer carried operator parts) ≡ Some other → IsNormal setting other
one_is_normal setting place outer carried operators.Order (a_part e no_parts) other n h = part_is_normal setting _ e other n.0 h
one_is_normal setting place outer carried _ _ other n h = absurd (cc)

sorted_is_normal : (setting : RuleSetting) (place outer : Place) (carried : Carried) (operator : Operator) (parts : Parts Carried) (other : PlanExpression)
    → AreNormal setting parts → order_of_sorted (At place outer carried operator parts) ≡ Some other → IsNormal setting other
sorted_is_normal setting place outer carried operators.Order (a_part e no_parts) other n h = part_is_normal setting _ e other n.0 h
sorted_is_normal setting place outer carried _ _ other n h = absurd (cc)

flat_is_normal : (setting : RuleSetting) (place outer : Place) (carried : Carried) (operator : Operator) (parts : Parts Carried) (other : PlanExpression)
    → AreNormal setting parts → flat (At place outer carried operator parts) ≡ Some other → IsNormal setting other
flat_is_normal setting place outer carried operators.Order (a_part e no_parts) other n h = part_is_normal setting _ e other n.0 h
flat_is_normal setting place outer carried _ _ other n h = absurd (cc)

single_is_normal : (setting : RuleSetting) (place outer : Place) (carried : Carried) (operator : Operator) (parts : Parts Carried) (other : PlanExpression)
    → AreNormal setting parts → single_loop setting.schemas (At place outer carried operator parts) ≡ Some other → IsNormal setting other
single_is_normal setting place outer carried (operators.For binder position) (a_part source (a_part body no_parts)) other n h =
    part_is_normal setting _ _ other
    (let_is_normal setting place binder source (with_position setting.schemas place position body) n.0
    (position_is_normal setting place position body n.1.0)) h
single_is_normal setting place outer carried _ _ other n h = absurd (cc)

decided_is_normal : (setting : RuleSetting) (place outer : Place) (carried : Carried) (operator : Operator) (parts : Parts Carried) (other : PlanExpression)
    → AreNormal setting parts → decided_switch setting.schemas (At place outer carried operator parts) ≡ Some other → IsNormal setting other
decided_is_normal setting place outer carried (operators.Switch [] default) (a_part operand (a_part branch no_parts)) other n h =
    subst (IsNormal setting) (some_is _ other h) (let_is_normal setting place (plain_binder default place) operand branch n.0 n.1.0)
decided_is_normal setting place outer carried (operators.Switch (case ∷ cases) default) (a_part operand (a_part branch branches)) other n h =
    part_is_normal setting _ _ other (let_is_normal setting place (plain_binder case.variable place) operand branch n.0 n.1.0) h
decided_is_normal setting place outer carried _ _ other n h = absurd (cc)

idle_is_normal : (setting : RuleSetting) (place outer : Place) (carried : Carried) (operator : Operator) (parts : Parts Carried) (other : PlanExpression)
    → AreNormal setting parts → idle setting.schemas (At place outer carried operator parts) ≡ Some other → IsNormal setting other
idle_is_normal setting place outer carried (operators.Call functions.Boolean) (a_part e no_parts) other n h = part_is_normal setting _ e other n.0 h
idle_is_normal setting place outer carried operators.DataOf (a_part e no_parts) other n h = part_is_normal setting _ e other n.0 h
idle_is_normal setting place outer carried _ _ other n h = absurd (cc)

joined_is_normal : (setting : RuleSetting) (outer inner : Loop) (test comparison absent : Place) (left_key right_key result : PlanExpression)
    → IsNormal setting outer.source → IsNormal setting inner.source → IsNormal setting left_key → IsNormal setting right_key
    → IsNormal setting result → IsNormal setting (marked_loops setting.schemas outer inner test comparison absent left_key right_key result)
joined_is_normal setting outer inner test comparison absent left_key right_key result s t l r e = (
  all_none setting _ refl refl,
  (
    s,
    (
      (
        all_none setting _ refl refl,
        (
          t,
          (
            (
              all_none setting _ refl refl,
              ((all_none setting _ refl refl, (l, (r, tt))), (e, ((all_none setting _ refl refl, tt), tt))),
            ),
            tt,
          ),
        ),
      ),
      tt,
    ),
  ),
)

keys_are_normal : (setting : RuleSetting) (outer inner : Loop) (test absent : Place) (result comparison other : PlanExpression)
    → IsNormal setting outer.source → IsNormal setting inner.source → IsNormal setting result → IsNormal setting comparison
    → join_by_keys setting.schemas outer inner test absent result comparison ≡ Some other → IsNormal setting other
keys_are_normal setting outer inner test absent result (At place o c (operators.Binary binary.AnyEq) (a_part left_key (a_part right_key no_parts))) other s t e n h =
    part_is_normal setting _ _ other (joined_is_normal setting outer inner test place absent left_key right_key result s t n.1.0 n.1.1.0 e) h
keys_are_normal setting outer inner test absent result (At place o c _ _) other s t e n h = absurd (cc)

test_is_normal : (setting : RuleSetting) (outer inner : Loop) (e other : PlanExpression) → IsNormal setting outer.source → IsNormal setting inner.source
    → IsNormal setting e → join_by_test setting.schemas outer inner e ≡ Some other → IsNormal setting other
test_is_normal setting outer inner (At place o c operators.If (a_part comparison (a_part result (a_part (At absent ao ac operators.Empty no_parts) no_parts)))) other s t n h =
    keys_are_normal setting outer inner place absent result comparison other s t n.1.1.0 n.1.0 h
test_is_normal setting outer inner (At place o c _ _) other s t n h = absurd (cc)

loop_is_normal : (setting : RuleSetting) (outer : Loop) (e other : PlanExpression) → IsNormal setting outer.source → IsNormal setting e
    → join_by_loop setting.schemas outer e ≡ Some other → IsNormal setting other
loop_is_normal setting outer (At place o c (operators.For binder zero) (a_part source (a_part body no_parts))) other s n h =
    test_is_normal setting outer (record { place = place; binder = binder; source = source }) body other s n.1.0 n.1.1.0
    (if_some (is_own_role c.role) _ other h)
loop_is_normal setting outer (At place o c _ _) other s n h = absurd (cc)

join_is_normal : (setting : RuleSetting) (place outer : Place) (carried : Carried) (operator : Operator) (parts : Parts Carried) (other : PlanExpression)
    → AreNormal setting parts → join setting.schemas (At place outer carried operator parts) ≡ Some other → IsNormal setting other
join_is_normal setting place outer carried (operators.For binder zero) (a_part source (a_part body no_parts)) other n h =
    loop_is_normal setting (record { place = place; binder = binder; source = source }) body other n.0 n.1.0
    (if_some (is_own_role carried.role) _ other h)
join_is_normal setting place outer carried _ _ other n h = absurd (cc)

-- ---- by a rule other than `slashes`

-- a rule leads from an expression to another, which is normal
abbrev Simplifies : RuleSetting → (e other : PlanExpression) → Type 0
Simplifies setting e other = StepsTo setting e other × IsNormal setting other

simplifies : (setting : RuleSetting) (place outer : Place) (carried : Carried) (operator : Operator) (parts : Parts Carried) (other : PlanExpression)
    → AreNormal setting parts → simplified setting (At place outer carried operator parts) ≡ Some other
    → Simplifies setting (At place outer carried operator parts) other
simplifies setting place outer carried operator parts other n h = by_kind (some_of (without_need_of_order e) behind other h)
  where
    e : PlanExpression
    e = At place outer carried operator parts

    schemas : SchemaSet
    schemas = setting.schemas

    behind : Option PlanExpression
    behind = one_or_other (single_loop schemas e) (one_or_other (join schemas e) (one_or_other (decided_switch schemas e) (idle schemas e)))

    by_last : (decided_switch schemas e ≡ Some other) ⊎ (idle schemas e ≡ Some other) → Simplifies setting e other
    by_last (inl k) = (by_rule setting e other Decided k, decided_is_normal setting place outer carried operator parts other n k)
    by_last (inr k) = (by_rule setting e other Idle k, idle_is_normal setting place outer carried operator parts other n k)

    by_join : (join schemas e ≡ Some other) ⊎ (one_or_other (decided_switch schemas e) (idle schemas e) ≡ Some other) → Simplifies setting e other
    by_join (inl k) = (by_rule setting e other Joins k, join_is_normal setting place outer carried operator parts other n k)
    by_join (inr k) = by_last (some_of (decided_switch schemas e) (idle schemas e) other k)

    by_single : (single_loop schemas e ≡ Some other) ⊎ (one_or_other (join schemas e) (one_or_other (decided_switch schemas e) (idle schemas e)) ≡ Some other)
        → Simplifies setting e other
    by_single (inl k) = (by_rule setting e other Single k, single_is_normal setting place outer carried operator parts other n k)
    by_single (inr k) = by_join (some_of (join schemas e) (one_or_other (decided_switch schemas e) (idle schemas e)) other k)

    by_flat : (order_of_sorted e ≡ Some other) ⊎ (flat e ≡ Some other) → Simplifies setting e other
    by_flat (inl k) = (by_rule setting e other Sorted k, sorted_is_normal setting place outer carried operator parts other n k)
    by_flat (inr k) = (by_rule setting e other Flat k, flat_is_normal setting place outer carried operator parts other n k)

    by_order : (one e ≡ Some other) ⊎ (one_or_other (order_of_sorted e) (flat e) ≡ Some other) → Simplifies setting e other
    by_order (inl k) = (by_rule setting e other One k, one_is_normal setting place outer carried operator parts other n k)
    by_order (inr k) = by_flat (some_of (order_of_sorted e) (flat e) other k)

    by_kind : (without_need_of_order e ≡ Some other) ⊎ (behind ≡ Some other) → Simplifies setting e other
    by_kind (inl k) = by_order (some_of (one e) (one_or_other (order_of_sorted e) (flat e)) other k)
    by_kind (inr k) = by_single (some_of (single_loop schemas e) (one_or_other (join schemas e) (one_or_other (decided_switch schemas e) (idle schemas e))) other k)

-- ---- by `slashes`

-- an operand in document order, which is normal, and over which `slashes` does not apply
record IsOrderOver (setting : RuleSetting) (other : PlanExpression) : Type 0 where
  pub place : Place
  pub operand : PlanExpression
  pub is : other ≡ made_operator setting.schemas place operators.Order (one_part operand)
  pub normal : IsNormal setting operand
  pub none : slashes setting (made_operator setting.schemas place operators.Order (one_part operand)) ≡ None

step_is_normal : (setting : RuleSetting) (place : Place) (asks : Test) (variable : ℕ) → IsNormal setting (made_step setting place asks variable)
step_is_normal setting place asks variable = (all_none setting (made_step setting place asks variable) refl refl, tt)

-- a loop or a `let` with a step to the descendants
descends_from : (setting : RuleSetting) (order place : Place) (asks : Test) (outer : Place) (carried : Carried) (operator : Operator)
    (source body other : PlanExpression) → IsNormal setting (At place outer carried operator (two_parts source body))
    → descending_from setting place asks (is_own_role carried.role) operator source body (binds_alone operator) ≡ Some other
    → IsNormal setting other × (slashes setting (made_operator setting.schemas order operators.Order (one_part other)) ≡ None)
descends_from setting order place asks outer carried (operators.For binder zero) source body other n h =
    let loop = loop_over_descendants setting place asks (operators.For binder zero) source binder in
    let is_own = first_holds (is_own_role carried.role) _ (guard_is_met _ loop other h) in
    let not_once : occurs_once (kind_carried source) ≡ false = second_fails (is_own_role carried.role) (occurs_once (kind_carried source)) is_own (guard_fails _ _ (n.0 Single)) in
    let simple : simplified setting loop ≡ None = ap (λ b. one_or_other (if_guarded b (made_let setting.schemas place binder source (with_position setting.schemas place zero (made_step setting place asks binder.variable)))) None) not_once in
    subst (λ (l : PlanExpression). IsNormal setting l × (slashes setting (made_operator setting.schemas order operators.Order (one_part l)) ≡ None)) (met _ loop other h)
    ((all_none setting loop simple refl, (n.1.0, (step_is_normal setting place asks binder.variable, tt))), refl)
descends_from setting order place asks outer carried (operators.Let binder) source body other n h =
    let loop = loop_over_descendants setting place asks (operators.Let binder) source binder in
    subst (λ (l : PlanExpression). IsNormal setting l × (slashes setting (made_operator setting.schemas order operators.Order (one_part l)) ≡ None)) (met _ loop other h)
    ((all_none setting loop refl refl, (n.1.0, (step_is_normal setting place asks binder.variable, tt))), refl)
descends_from setting order place asks outer carried _ source body other n h = absurd (cc)

descends : (setting : RuleSetting) (order : Place) (asks : Test) (e other : PlanExpression) → IsNormal setting e
    → with_steps_below setting asks e ≡ Some other
    → IsNormal setting other × (slashes setting (made_operator setting.schemas order operators.Order (one_part other)) ≡ None)
descends setting order asks (At place outer carried operator (a_part source (a_part body no_parts))) other n h =
    descends_from setting order place asks outer carried operator source body other n h
descends setting order asks (At place outer carried operator _) other n h = absurd (cc)

without_order_is_normal : (setting : RuleSetting) (e : PlanExpression) → IsNormal setting e → IsNormal setting (without_order e)
without_order_is_normal setting (At place outer carried operators.Order (a_part e no_parts)) n = n.1.0
without_order_is_normal setting (At place outer carried _ _) n = n

ordered_over : (setting : RuleSetting) (place : Place) (found : Option PlanExpression) (other : PlanExpression)
    → ((e : PlanExpression) → found ≡ Some e
    → IsNormal setting e × (slashes setting (made_operator setting.schemas place operators.Order (one_part e)) ≡ None))
    → ordered_operand setting.schemas place found ≡ Some other → IsOrderOver setting other
ordered_over setting place None other k h = absurd (cc)
ordered_over setting place (Some e) other k h =
    let facts = k e refl in
    record { place = place; operand = e; is = sym (some_is _ other h); normal = facts.0; none = facts.1 }

slashes_over_order : (setting : RuleSetting) (place : Place) (variable : ℕ) (source body other : PlanExpression) → IsNormal setting source
    → slashes_over setting place variable source body ≡ Some other → IsOrderOver setting other
slashes_over_order setting place variable source (At p o c (operators.Step axes.Child asks number) no_parts) other n h =
    ordered_over setting place (with_steps_below setting asks (without_order source)) other
    (λ e found. descends setting place asks (without_order source) e (without_order_is_normal setting source n) found)
    (if_some (nat_eq number variable) _ other h)
slashes_over_order setting place variable source (At p o c _ _) other n h = absurd (cc)

slashes_give_order : (setting : RuleSetting) (place outer : Place) (carried : Carried) (operator : Operator) (parts : Parts Carried)
    (other : PlanExpression) → AreNormal setting parts → slashes setting (At place outer carried operator parts) ≡ Some other
    → IsOrderOver setting other
slashes_give_order setting place outer carried operators.Order (a_part (At p o c (operators.For binder zero) (a_part source (a_part body no_parts))) no_parts) other n h =
    slashes_over_order setting place binder.variable source body other n.0.1.0 (if_some (is_own_role c.role) _ other h)
slashes_give_order setting place outer carried _ _ other n h = absurd (cc)

-- ---- any rule

-- rules lead from an expression to another, which is normal
pub record BecomesNormal (setting : RuleSetting) (e other : PlanExpression) : Type 0 where
  pub reached : PlanReaches setting e other
  pub normal : IsNormal setting other

behind_slashes : (setting : RuleSetting) (e other : PlanExpression) → StepsTo setting e other → IsOrderOver setting other
    → BecomesNormal setting e (unwrap_or (simplified setting other) other)
behind_slashes setting e other first over = by_case (simplified setting other) refl
  where
    order : PlanExpression
    order = made_operator setting.schemas over.place operators.Order (one_part over.operand)

    by_case : (found : Option PlanExpression) → simplified setting other ≡ found → BecomesNormal setting e (unwrap_or found other)
    by_case None h = record {
      reached = by_one (StepsTo setting) e other first;
      normal =
          subst (IsNormal setting) (sym over.is)
          (all_none setting order (ap (simplified setting) (sym over.is) ∙ h) over.none, (over.normal, tt));
    }
    by_case (Some last) h =
        let second = simplifies setting over.place over.place _ operators.Order (one_part over.operand) last (over.normal, tt)
        (ap (simplified setting) (sym over.is) ∙ h) in
        record {
          reached =
              then_reaches (StepsTo setting) e other last (by_one (StepsTo setting) e other first)
              (by_one (StepsTo setting) other last (subst (λ (o : PlanExpression). StepsTo setting o last) (sym over.is) second.0));
          normal = second.1;
        }

-- an operator whose parts are normal
pub becomes_normal : (setting : RuleSetting) (place outer : Place) (carried : Carried) (operator : Operator) (parts : Parts Carried)
    → AreNormal setting parts
    → BecomesNormal setting (At place outer carried operator parts) (rewritten_at setting (At place outer carried operator parts))
becomes_normal setting place outer carried operator parts n = by_case (simplified setting e) (slashes setting e) refl refl
  where
    e : PlanExpression
    e = At place outer carried operator parts

    by_case : (found below : Option PlanExpression) → simplified setting e ≡ found → slashes setting e ≡ below
        → BecomesNormal setting e (unwrap_or (one_or_other found (option_map (λ other. unwrap_or (simplified setting other) other) below)) e)
    by_case (Some other) below h k =
        let done = simplifies setting place outer carried operator parts other n h in
        record { reached = by_one (StepsTo setting) e other done.0; normal = done.1 }
    by_case None None h k = record { reached = stays (StepsTo setting) e; normal = (all_none setting e h k, n) }
    by_case None (Some other) h k =
        behind_slashes setting e other (by_rule setting e other Slashes k) (slashes_give_order setting place outer carried operator parts other n k)
