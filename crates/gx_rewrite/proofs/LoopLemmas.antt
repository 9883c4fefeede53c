-- What becomes of a loop.
use Rattle.std.proofs.Common.{◌≡◌, ℕ, zero, suc, nat_eq, Bool, true, false, ◌&&◌, Option, None, Some, unwrap_or, refl, ◌∙◌, ap, if◌then◌else◌}
use Rattle.std.proofs.Math.Dec.{eqb-suc-zero}
use Rattle.gx_core.specs.declared.expression.BinaryOp.TheVariants as binary
use Rattle.gx_base.specs.declared.place.Place.{Place}
use Rattle.gx_types.specs.SchemaSet.{SchemaSet}
use Rattle.gx_core.specs.declared.expression.Binder.{Binder}
use Rattle.gx_core.specs.declared.operator.Operator.TheVariants as operators
use Rattle.gx_core.specs.Expression.{At, no_parts, a_part, two_parts, three_parts}
use Rattle.gx_plan.specs.declared.plan.Carried.{Carried}
use Rattle.gx_plan.specs.Plan.{PlanExpression, kind_carried}
use Rattle.gx_rules.specs.Guards.{is_own_role}
use Rattle.gx_plan.specs.declared.plan.Role.{Role}
use Rattle.gx_plan.specs.declared.plan.Role.TheVariants as roles
use Rattle.gx_rules.specs.Rules.{RuleSetting, if_guarded, made_as, made_let, with_position, occurs_once, join, join_by_loop, join_by_test, join_by_keys, marked_loops, Loop}
use Rattle.gx_rewrite.specs.Rewriting.{one_or_other, rewritten_at}
use Rattle.gx_rewrite.specs.Shapes.{is_join_loop, joins_by_loop, joins_by_test, joins_by_keys, is_empty_operator, marked_comparison, marked_test, marked_join}

-- its source has one item
pub single_applies : (setting : RuleSetting) (place outer : Place) (carried : Carried) (binder : Binder) (position : ℕ) (source body : PlanExpression)
    → is_own_role carried.role && occurs_once (kind_carried source) ≡ true
    → rewritten_at setting (At place outer carried (operators.For binder position) (two_parts source body))
    ≡ made_let setting.schemas place binder source (with_position setting.schemas place position body)
single_applies setting place outer carried binder position source body h =
    ap (λ b. unwrap_or (one_or_other (one_or_other (if_guarded b (made_let setting.schemas place binder source (with_position setting.schemas place position body)))
    (one_or_other (join setting.schemas (At place outer carried (operators.For binder position) (two_parts source body))) None)) None)
    (At place outer carried (operators.For binder position) (two_parts source body))) h

if_true : (test more : Bool) (found : Option PlanExpression) (e : PlanExpression) → test && more ≡ true → (more ≡ true → found ≡ Some e)
    → (if test then found else None) ≡ Some e
if_true true more found e h k = k h
if_true false more found e h k = absurd (cc)

if_not : (test more : Bool) (found : Option PlanExpression) → test && more ≡ false → (more ≡ false → found ≡ None)
    → (if test then found else None) ≡ None
if_not true more found h k = k h
if_not false more found h k = refl

second_holds : (a b : Bool) → a && b ≡ true → b ≡ true
second_holds true b h = h
second_holds false b h = absurd (cc)

-- the comparison, the test and the inner loop of a join
keys_are_marked : (schemas : SchemaSet) (outer inner : Loop) (test absent : Place) (result comparison : PlanExpression)
    → joins_by_keys schemas outer.binder.variable inner.binder.variable inner.source comparison ≡ true
    → join_by_keys schemas outer inner test absent result comparison
    ≡ Some (made_as roles.Join schemas outer.place (operators.For outer.binder 0) (two_parts outer.source
    (made_as roles.InJoin schemas inner.place (operators.For inner.binder 0) (two_parts inner.source
    (made_as roles.InJoin schemas test operators.If
    (three_parts (marked_comparison schemas comparison) result (made_as roles.InJoin schemas absent operators.Empty no_parts)))))))
keys_are_marked schemas outer inner test absent result (At place o c (operators.Binary binary.AnyEq) (a_part left_key (a_part right_key no_parts))) h =
    ap (λ b. if_guarded b (marked_loops schemas outer inner test place absent left_key right_key result)) h
keys_are_marked schemas outer inner test absent result (At place o c _ _) h = absurd (cc)

test_is_marked : (schemas : SchemaSet) (outer inner : Loop) (test : PlanExpression)
    → joins_by_test schemas outer.binder.variable inner.binder.variable inner.source test ≡ true
    → join_by_test schemas outer inner test
    ≡ Some (made_as roles.Join schemas outer.place (operators.For outer.binder 0) (two_parts outer.source
    (made_as roles.InJoin schemas inner.place (operators.For inner.binder 0) (two_parts inner.source (marked_test schemas test)))))
test_is_marked schemas outer inner (At place o c operators.If (a_part comparison (a_part result (a_part absent no_parts)))) h =
    with_absent schemas outer inner place o c comparison result absent h
  where
    with_absent : (schemas : SchemaSet) (outer inner : Loop) (place o : Place) (c : Carried) (comparison result absent : PlanExpression)
        → is_empty_operator absent && joins_by_keys schemas outer.binder.variable inner.binder.variable inner.source comparison ≡ true
        → join_by_test schemas outer inner (At place o c operators.If (three_parts comparison result absent))
        ≡ Some (made_as roles.Join schemas outer.place (operators.For outer.binder 0) (two_parts outer.source
        (made_as roles.InJoin schemas inner.place (operators.For inner.binder 0) (two_parts inner.source
        (marked_test schemas (At place o c operators.If (three_parts comparison result absent)))))))
    with_absent schemas outer inner place o c comparison result (At absent ao ac operators.Empty no_parts) h =
        keys_are_marked schemas outer inner place absent result comparison h
    with_absent schemas outer inner place o c comparison result (At absent ao ac _ _) h = absurd (cc)
test_is_marked schemas outer inner (At place o c _ _) h = absurd (cc)

loop_is_marked : (schemas : SchemaSet) (outer : Loop) (body : PlanExpression) → joins_by_loop schemas outer.binder.variable body ≡ true
    → join_by_loop schemas outer body ≡ Some (marked_join schemas outer.place outer.binder outer.source body)
loop_is_marked schemas outer (At place o c (operators.For binder zero) (a_part source (a_part test no_parts))) h =
    if_true (is_own_role c.role) _ _ _ h
    (λ k. test_is_marked schemas outer (record { place = place; binder = binder; source = source }) test k)
loop_is_marked schemas outer (At place o c _ _) h = absurd (cc)

no_keys : (schemas : SchemaSet) (outer inner : Loop) (test absent : Place) (result comparison : PlanExpression)
    → joins_by_keys schemas outer.binder.variable inner.binder.variable inner.source comparison ≡ false
    → join_by_keys schemas outer inner test absent result comparison ≡ None
no_keys schemas outer inner test absent result (At place o c (operators.Binary binary.AnyEq) (a_part left_key (a_part right_key no_parts))) h =
    ap (λ b. if_guarded b (marked_loops schemas outer inner test place absent left_key right_key result)) h
no_keys schemas outer inner test absent result (At place o c _ _) h = refl

no_test : (schemas : SchemaSet) (outer inner : Loop) (test : PlanExpression)
    → joins_by_test schemas outer.binder.variable inner.binder.variable inner.source test ≡ false → join_by_test schemas outer inner test ≡ None
no_test schemas outer inner (At place o c operators.If (a_part comparison (a_part result (a_part (At absent ao ac operators.Empty no_parts) no_parts)))) h =
    no_keys schemas outer inner place absent result comparison h
no_test schemas outer inner (At place o c _ _) h = refl

no_join : (schemas : SchemaSet) (outer : Loop) (body : PlanExpression) → joins_by_loop schemas outer.binder.variable body ≡ false
    → join_by_loop schemas outer body ≡ None
no_join schemas outer (At place o c (operators.For binder zero) (a_part source (a_part test no_parts))) h =
    if_not (is_own_role c.role) _ _ h (λ k. no_test schemas outer (record { place = place; binder = binder; source = source }) test k)
no_join schemas outer (At place o c _ _) h = refl

-- a loop whose source need not have one item
abbrev beside_single : (setting : RuleSetting) → (whole single_let : PlanExpression) → Bool → Option PlanExpression → PlanExpression
beside_single setting whole single_let once joined_loop =
    unwrap_or (one_or_other (one_or_other (if_guarded once single_let) (one_or_other joined_loop None)) None) whole

-- its body makes it a join
pub join_applies : (setting : RuleSetting) (place outer : Place) (carried : Carried) (binder : Binder) (position : ℕ) (source body : PlanExpression)
    → is_own_role carried.role && occurs_once (kind_carried source) ≡ false
    → is_join_loop setting.schemas carried.role binder.variable position body ≡ true
    → rewritten_at setting (At place outer carried (operators.For binder position) (two_parts source body))
    ≡ marked_join setting.schemas place binder source body
join_applies setting place outer carried binder zero source body h k =
    let whole = At place outer carried (operators.For binder zero) (two_parts source body) in
    ap (λ b. beside_single setting whole (made_let setting.schemas place binder source body) b (join setting.schemas whole)) h
    ∙ ap (λ found. beside_single setting whole (made_let setting.schemas place binder source body) false found)
    (if_true (is_own_role carried.role) _ _ _ k
    (λ more. loop_is_marked setting.schemas (record { place = place; binder = binder; source = source }) body more))
join_applies setting place outer carried binder (suc n) source body h k =
    absurd (no_position (is_own_role carried.role) n _ k)
  where
    no_position : (b : Bool) (m : ℕ) (more : Bool) → b && (nat_eq (suc m) 0 && more) ≡ true → ⊥
    no_position true m more h = let z : nat_eq (suc m) 0 ≡ false = eqb-suc-zero m in absurd (cc)
    no_position false m more h = absurd (cc)

-- it stays
pub loop_stays : (setting : RuleSetting) (place outer : Place) (carried : Carried) (binder : Binder) (position : ℕ) (source body : PlanExpression)
    → is_own_role carried.role && occurs_once (kind_carried source) ≡ false
    → is_join_loop setting.schemas carried.role binder.variable position body ≡ false
    → rewritten_at setting (At place outer carried (operators.For binder position) (two_parts source body))
    ≡ At place outer carried (operators.For binder position) (two_parts source body)
loop_stays setting place outer carried binder zero source body h k =
    let whole = At place outer carried (operators.For binder zero) (two_parts source body) in
    ap (λ b. beside_single setting whole (made_let setting.schemas place binder source body) b (join setting.schemas whole)) h
    ∙ ap (λ found. beside_single setting whole (made_let setting.schemas place binder source body) false found)
    (if_not (is_own_role carried.role) _ _ k
    (λ none. no_join setting.schemas (record { place = place; binder = binder; source = source }) body none))
loop_stays setting place outer carried binder (suc n) source body h k =
    let whole = At place outer carried (operators.For binder (suc n)) (two_parts source body) in
    ap (λ b. beside_single setting whole (made_let setting.schemas place binder source (with_position setting.schemas place (suc n) body)) b None) h

pub join_has_loop : (schemas : SchemaSet) (role : Role) (left position : ℕ) (body : PlanExpression)
    → is_join_loop schemas role left position body ≡ true → joins_by_loop schemas left body ≡ true
join_has_loop schemas role left position body h = second_holds (nat_eq position 0) _ (second_holds (is_own_role role) _ h)
