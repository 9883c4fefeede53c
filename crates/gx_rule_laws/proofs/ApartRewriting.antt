-- Joins stay apart where rules are applied inside an expression, any number of times.
use Rattle.std.proofs.Common.{◌≡◌, inl, inr, ℕ, zero, suc, true, false, ◌&&◌, Some, sym, ◌∙◌, ap, subst}
use Rattle.std.proofs.lemmas.Bool.{true≢false, and_parts, and_from, or_parts, or_from}
use Rattle.gx_base.specs.declared.place.Place.{Place}
use Rattle.gx_core.specs.declared.expression.Binder.{Binder}
use Rattle.gx_core.specs.declared.expression.BinaryOp.TheVariants as binary
use Rattle.gx_core.specs.declared.operator.Operator.{Operator}
use Rattle.gx_core.specs.declared.operator.Operator.TheVariants as operators
use Rattle.gx_core.specs.Expression.{At, Parts, no_parts, a_part, two_parts, three_parts}
use Rattle.gx_core.specs.FreeVariables.{names_variable}
use Rattle.gx_growth_laws.specs.Steady.{operator_makes_nothing, makes_nothing, parts_make_nothing}
use Rattle.gx_plan.specs.declared.plan.Role.{Role}
use Rattle.gx_plan.specs.declared.plan.Role.TheVariants.{InJoin}
use Rattle.gx_plan.specs.declared.plan.Carried.{Carried}
use Rattle.gx_plan.specs.Plan.{PlanExpression, kind_carried}
use Rattle.gx_rules.specs.Guards.{is_own_role, is_named_in, is_named_in_parts}
use Rattle.gx_rules.specs.Rules.{RuleSetting, RewritingRule, One, Sorted, Flat, Slashes, Single, Decided, Idle, Joins, rewritten_by, made_let, occurs_once, join_by_loop}
use Rattle.gx_rules.specs.Normal.{StepsTo, PartStepsTo, ReachesIn}
use Rattle.gx_rule_laws.specs.ApartJoins.{IsComparisonApart, IsTestApart, IsInnerLoopApart, IsJoinApart, AreJoinsApart, JoinsInPartsAreApart, RewritingKeepsJoinsApart}
use Rattle.gx_rule_laws.proofs.GuardLemmas.{met, given_if}
use Rattle.gx_rule_laws.proofs.ApartRules.{rule_keeps_apart}

-- ---- names, and what makes nothing

pub record AddsNothing (e other : PlanExpression) : Type 0 where
  pub names : (number : ℕ) → is_named_in e number ≡ false → is_named_in other number ≡ false
  pub nothing : makes_nothing e ≡ true → makes_nothing other ≡ true

record PartsAddNothing (parts others : Parts Carried) : Type 0 where
  names : (number : ℕ) → is_named_in_parts parts number ≡ false → is_named_in_parts others number ≡ false
  nothing : parts_make_nothing parts ≡ true → parts_make_nothing others ≡ true

mutual
  pub step_adds_nothing : (setting : RuleSetting) (e other : PlanExpression) → StepsTo setting e other → AddsNothing e other
  step_adds_nothing setting (At place outer carried operator parts) other (inl applies) =
      let kept = rule_keeps_apart setting applies.rule (At place outer carried operator parts) other applies.gives in
      record { names = kept.names; nothing = kept.nothing }
  step_adds_nothing setting (At place outer carried operator parts) other (inr (others, is, steps)) =
      let inside = part_step_adds_nothing setting parts others steps in
      subst (λ (d : PlanExpression). AddsNothing (At place outer carried operator parts) d) (sym is) (record {
        names = λ number h.
            let p = or_parts (names_variable operator number) (is_named_in_parts parts number) h in
            or_from (names_variable operator number) (is_named_in_parts others number) p.0 (inside.names number p.1);
        nothing = λ h.
            let p = and_parts (operator_makes_nothing operator) (parts_make_nothing parts) h in
            and_from (operator_makes_nothing operator) (parts_make_nothing others) p.0 (inside.nothing p.1);
      })

  part_step_adds_nothing : (setting : RuleSetting) (parts others : Parts Carried) → PartStepsTo setting parts others → PartsAddNothing parts others
  part_step_adds_nothing setting no_parts others steps = absurd steps
  part_step_adds_nothing setting (a_part e es) others (inl (d, is, steps)) =
      let first = step_adds_nothing setting e d steps in
      subst (λ (ds : Parts Carried). PartsAddNothing (a_part e es) ds) (sym is) (record {
        names = λ number h.
            let p = or_parts (is_named_in e number) (is_named_in_parts es number) h in
            or_from (is_named_in d number) (is_named_in_parts es number) (first.names number p.0) p.1;
        nothing = λ h.
            let p = and_parts (makes_nothing e) (parts_make_nothing es) h in and_from (makes_nothing d) (parts_make_nothing es) (first.nothing p.0) p.1;
      })
  part_step_adds_nothing setting (a_part e es) others (inr (ds, is, steps)) =
      let rest = part_step_adds_nothing setting es ds steps in
      subst (λ (fs : Parts Carried). PartsAddNothing (a_part e es) fs) (sym is) (record {
        names = λ number h.
            let p = or_parts (is_named_in e number) (is_named_in_parts es number) h in
            or_from (is_named_in e number) (is_named_in_parts ds number) p.0 (rest.names number p.1);
        nothing = λ h.
            let p = and_parts (makes_nothing e) (parts_make_nothing es) h in and_from (makes_nothing e) (parts_make_nothing ds) p.0 (rest.nothing p.1);
      })

-- ---- no rule applies to an operator inside a join

not_own : (role : Role) → role ≡ InJoin → is_own_role role ≡ true → ⊥
not_own role e f = true≢false (sym f ∙ ap is_own_role e)

no_rule_at_loop : (setting : RuleSetting) (rule : RewritingRule) (place outer : Place) (carried : Carried) (binder : Binder) (source test other : PlanExpression)
    → carried.role ≡ InJoin → rewritten_by setting rule (At place outer carried (operators.For binder zero) (two_parts source test)) ≡ Some other → ⊥
no_rule_at_loop setting One place outer carried binder source test other e h = cc
no_rule_at_loop setting Sorted place outer carried binder source test other e h = cc
no_rule_at_loop setting Flat place outer carried binder source test other e h = cc
no_rule_at_loop setting Slashes place outer carried binder source test other e h = cc
no_rule_at_loop setting Single place outer carried binder source test other e h =
    not_own carried.role e
    (and_parts (is_own_role carried.role) (occurs_once (kind_carried source))
    (met (is_own_role carried.role && occurs_once (kind_carried source)) (made_let setting.schemas place binder source test) other h).0).0
no_rule_at_loop setting Decided place outer carried binder source test other e h = cc
no_rule_at_loop setting Idle place outer carried binder source test other e h = cc
no_rule_at_loop setting Joins place outer carried binder source test other e h =
    not_own carried.role e
    (given_if (is_own_role carried.role) (join_by_loop setting.schemas (record { place = place; binder = binder; source = source }) test) other h).0

no_rule_at_test : (setting : RuleSetting) (rule : RewritingRule) (place outer : Place) (carried : Carried) (comparison result absent other : PlanExpression)
    → rewritten_by setting rule (At place outer carried operators.If (three_parts comparison result absent)) ≡ Some other → ⊥
no_rule_at_test setting One place outer carried comparison result absent other h = cc
no_rule_at_test setting Sorted place outer carried comparison result absent other h = cc
no_rule_at_test setting Flat place outer carried comparison result absent other h = cc
no_rule_at_test setting Slashes place outer carried comparison result absent other h = cc
no_rule_at_test setting Single place outer carried comparison result absent other h = cc
no_rule_at_test setting Decided place outer carried comparison result absent other h = cc
no_rule_at_test setting Idle place outer carried comparison result absent other h = cc
no_rule_at_test setting Joins place outer carried comparison result absent other h = cc

no_rule_at_comparison : (setting : RuleSetting) (rule : RewritingRule) (place outer : Place) (carried : Carried) (left right other : PlanExpression)
    → rewritten_by setting rule (At place outer carried (operators.Binary binary.AnyEq) (two_parts left right)) ≡ Some other → ⊥
no_rule_at_comparison setting One place outer carried left right other h = cc
no_rule_at_comparison setting Sorted place outer carried left right other h = cc
no_rule_at_comparison setting Flat place outer carried left right other h = cc
no_rule_at_comparison setting Slashes place outer carried left right other h = cc
no_rule_at_comparison setting Single place outer carried left right other h = cc
no_rule_at_comparison setting Decided place outer carried left right other h = cc
no_rule_at_comparison setting Idle place outer carried left right other h = cc
no_rule_at_comparison setting Joins place outer carried left right other h = cc

no_rule_at_empty : (setting : RuleSetting) (rule : RewritingRule) (place outer : Place) (carried : Carried) (other : PlanExpression)
    → rewritten_by setting rule (At place outer carried operators.Empty no_parts) ≡ Some other → ⊥
no_rule_at_empty setting One place outer carried other h = cc
no_rule_at_empty setting Sorted place outer carried other h = cc
no_rule_at_empty setting Flat place outer carried other h = cc
no_rule_at_empty setting Slashes place outer carried other h = cc
no_rule_at_empty setting Single place outer carried other h = cc
no_rule_at_empty setting Decided place outer carried other h = cc
no_rule_at_empty setting Idle place outer carried other h = cc
no_rule_at_empty setting Joins place outer carried other h = cc

-- ---- a step inside a join keeps its form

comparison_steps : (setting : RuleSetting) (left right : ℕ) (source comparison other : PlanExpression) → IsComparisonApart left right source comparison
    → StepsTo setting comparison other → IsComparisonApart left right source other
comparison_steps setting left right source (At place outer carried (operators.Binary binary.AnyEq) (a_part left_key (a_part right_key no_parts))) other h (inl applies) =
    absurd (no_rule_at_comparison setting applies.rule place outer carried left_key right_key other applies.gives)
comparison_steps setting left right source (At place outer carried (operators.Binary binary.AnyEq) (a_part left_key (a_part right_key no_parts))) other h
    (inr (others, is, inl (key, is_key, steps))) =
    let adds = step_adds_nothing setting left_key key steps in
    subst (λ (d : PlanExpression). IsComparisonApart left right source d)
    (sym (is ∙ ap (At place outer carried (operators.Binary binary.AnyEq)) is_key)) (
      h.0,
      record {
        source_makes_nothing = h.1.source_makes_nothing;
        left_key_makes_nothing = adds.nothing h.1.left_key_makes_nothing;
        right_key_makes_nothing = h.1.right_key_makes_nothing;
        source_without_left = h.1.source_without_left;
        right_key_without_left = h.1.right_key_without_left;
        left_key_without_right = adds.names right h.1.left_key_without_right;
      },
    )
comparison_steps setting left right source (At place outer carried (operators.Binary binary.AnyEq) (a_part left_key (a_part right_key no_parts))) other h
    (inr (others, is, inr (rest, is_rest, inl (key, is_key, steps)))) =
    let adds = step_adds_nothing setting right_key key steps in
    subst (λ (d : PlanExpression). IsComparisonApart left right source d)
    (sym (is ∙ ap (At place outer carried (operators.Binary binary.AnyEq)) (is_rest ∙ ap (a_part left_key) is_key))) (
      h.0,
      record {
        source_makes_nothing = h.1.source_makes_nothing;
        left_key_makes_nothing = h.1.left_key_makes_nothing;
        right_key_makes_nothing = adds.nothing h.1.right_key_makes_nothing;
        source_without_left = h.1.source_without_left;
        right_key_without_left = adds.names left h.1.right_key_without_left;
        left_key_without_right = h.1.left_key_without_right;
      },
    )
comparison_steps setting left right source (At place outer carried (operators.Binary binary.AnyEq) (a_part left_key (a_part right_key no_parts))) other h
    (inr (others, is, inr (rest, is_rest, inr (more, is_more, steps)))) = absurd steps
comparison_steps setting left right source _ other h steps = absurd h

test_steps : (setting : RuleSetting) (left right : ℕ) (source test other : PlanExpression) → IsTestApart left right source test → StepsTo setting test other
    → IsTestApart left right source other
test_steps setting left right source (At place outer carried operators.If (a_part comparison (a_part result (a_part (At p o absent operators.Empty no_parts) no_parts)))) other h
    (inl applies) =
    absurd (no_rule_at_test setting applies.rule place outer carried comparison result (At p o absent operators.Empty no_parts) other applies.gives)
test_steps setting left right source (At place outer carried operators.If (a_part comparison (a_part result (a_part (At p o absent operators.Empty no_parts) no_parts)))) other h
    (inr (others, is, inl (d, is_d, steps))) =
    subst (λ (e : PlanExpression). IsTestApart left right source e) (sym (is ∙ ap (At place outer carried operators.If) is_d))
    (h.0, (h.1.0, comparison_steps setting left right source comparison d h.1.1 steps))
test_steps setting left right source (At place outer carried operators.If (a_part comparison (a_part result (a_part (At p o absent operators.Empty no_parts) no_parts)))) other h
    (inr (others, is, inr (rest, is_rest, inl (d, is_d, steps)))) =
    subst (λ (e : PlanExpression). IsTestApart left right source e)
    (sym (is ∙ ap (At place outer carried operators.If) (is_rest ∙ ap (a_part comparison) is_d))) h
test_steps setting left right source (At place outer carried operators.If (a_part comparison (a_part result (a_part (At p o absent operators.Empty no_parts) no_parts)))) other h
    (inr (others, is, inr (rest, is_rest, inr (more, is_more, inl (d, is_d, inl applies))))) =
    absurd (no_rule_at_empty setting applies.rule p o absent d applies.gives)
test_steps setting left right source (At place outer carried operators.If (a_part comparison (a_part result (a_part (At p o absent operators.Empty no_parts) no_parts)))) other h
    (inr (others, is, inr (rest, is_rest, inr (more, is_more, inl (d, is_d, inr (none, is_none, steps)))))) = absurd steps
test_steps setting left right source (At place outer carried operators.If (a_part comparison (a_part result (a_part (At p o absent operators.Empty no_parts) no_parts)))) other h
    (inr (others, is, inr (rest, is_rest, inr (more, is_more, inr (last, is_last, steps))))) = absurd steps
test_steps setting left right source _ other h steps = absurd h

-- another source, which adds nothing
comparison_over : (left right : ℕ) (source other comparison : PlanExpression) → AddsNothing source other → IsComparisonApart left right source comparison
    → IsComparisonApart left right other comparison
comparison_over left right source other (At place outer carried (operators.Binary binary.AnyEq) (a_part left_key (a_part right_key no_parts))) adds h = (
  h.0,
  record {
    source_makes_nothing = adds.nothing h.1.source_makes_nothing;
    left_key_makes_nothing = h.1.left_key_makes_nothing;
    right_key_makes_nothing = h.1.right_key_makes_nothing;
    source_without_left = adds.names left h.1.source_without_left;
    right_key_without_left = h.1.right_key_without_left;
    left_key_without_right = h.1.left_key_without_right;
  },
)
comparison_over left right source other _ adds h = absurd h

test_over : (left right : ℕ) (source other test : PlanExpression) → AddsNothing source other → IsTestApart left right source test → IsTestApart left right other test
test_over left right source other
    (At place outer carried operators.If (a_part comparison (a_part result (a_part (At p o absent operators.Empty no_parts) no_parts)))) adds h =
    (h.0, (h.1.0, comparison_over left right source other comparison adds h.1.1))
test_over left right source other _ adds h = absurd h

inner_loop_steps : (setting : RuleSetting) (left : ℕ) (inner other : PlanExpression) → IsInnerLoopApart left inner → StepsTo setting inner other
    → IsInnerLoopApart left other
inner_loop_steps setting left (At place outer carried (operators.For binder zero) (a_part source (a_part test no_parts))) other h (inl applies) =
    absurd (no_rule_at_loop setting applies.rule place outer carried binder source test other h.0 applies.gives)
inner_loop_steps setting left (At place outer carried (operators.For binder zero) (a_part source (a_part test no_parts))) other h
    (inr (others, is, inl (d, is_d, steps))) =
    subst (λ (e : PlanExpression). IsInnerLoopApart left e) (sym (is ∙ ap (At place outer carried (operators.For binder zero)) is_d))
    (h.0, test_over left binder.variable source d test (step_adds_nothing setting source d steps) h.1)
inner_loop_steps setting left (At place outer carried (operators.For binder zero) (a_part source (a_part test no_parts))) other h
    (inr (others, is, inr (rest, is_rest, inl (d, is_d, steps)))) =
    subst (λ (e : PlanExpression). IsInnerLoopApart left e)
    (sym (is ∙ ap (At place outer carried (operators.For binder zero)) (is_rest ∙ ap (a_part source) is_d)))
    (h.0, test_steps setting left binder.variable source test d h.1 steps)
inner_loop_steps setting left (At place outer carried (operators.For binder zero) (a_part source (a_part test no_parts))) other h
    (inr (others, is, inr (rest, is_rest, inr (last, is_last, steps)))) = absurd steps
inner_loop_steps setting left _ other h steps = absurd h

join_steps : (setting : RuleSetting) (place outer : Place) (carried : Carried) (operator : Operator) (parts others : Parts Carried)
    → IsJoinApart (At place outer carried operator parts) → PartStepsTo setting parts others → IsJoinApart (At place outer carried operator others)
join_steps setting place outer carried (operators.For binder zero) (a_part source (a_part inner no_parts)) others h (inl (d, is_d, steps)) =
    subst (λ (ds : Parts Carried). IsJoinApart (At place outer carried (operators.For binder zero) ds)) (sym is_d) h
join_steps setting place outer carried (operators.For binder zero) (a_part source (a_part inner no_parts)) others h (inr (rest, is_rest, inl (d, is_d, steps))) =
    subst (λ (ds : Parts Carried). IsJoinApart (At place outer carried (operators.For binder zero) ds)) (sym (is_rest ∙ ap (a_part source) is_d))
    (inner_loop_steps setting binder.variable inner d h steps)
join_steps setting place outer carried (operators.For binder zero) (a_part source (a_part inner no_parts)) others h (inr (rest, is_rest, inr (last, is_last, steps))) = absurd steps
join_steps setting place outer carried _ _ others h steps = absurd h

-- ---- one application

mutual
  steps_apart : (setting : RuleSetting) (e other : PlanExpression) → AreJoinsApart e → StepsTo setting e other → AreJoinsApart other
  steps_apart setting (At place outer carried operator parts) other h (inl applies) =
      (rule_keeps_apart setting applies.rule (At place outer carried operator parts) other applies.gives).joins h
  steps_apart setting (At place outer carried operator parts) other h (inr (others, is, steps)) =
      subst (λ (d : PlanExpression). AreJoinsApart d) (sym is)
      ((λ marked. join_steps setting place outer carried operator parts others (h.0 marked) steps), part_steps_apart setting parts others h.1 steps)

  part_steps_apart : (setting : RuleSetting) (parts others : Parts Carried) → JoinsInPartsAreApart parts → PartStepsTo setting parts others
      → JoinsInPartsAreApart others
  part_steps_apart setting no_parts others h steps = absurd steps
  part_steps_apart setting (a_part e es) others h (inl (d, is, steps)) =
      subst (λ (ds : Parts Carried). JoinsInPartsAreApart ds) (sym is) (steps_apart setting e d h.0 steps, h.1)
  part_steps_apart setting (a_part e es) others h (inr (ds, is, steps)) =
      subst (λ (fs : Parts Carried). JoinsInPartsAreApart fs) (sym is) (h.0, part_steps_apart setting es ds h.1 steps)

-- ---- any number of them

reached_apart : (setting : RuleSetting) (applications : ℕ) (e other : PlanExpression) → AreJoinsApart e → ReachesIn (StepsTo setting) applications e other
    → AreJoinsApart other
reached_apart setting zero e other h same = subst (λ (d : PlanExpression). AreJoinsApart d) same h
reached_apart setting (suc n) e other h (next, steps, rest) = reached_apart setting n next other (steps_apart setting e next h steps) rest

pub rewriting_keeps_joins_apart : RewritingKeepsJoinsApart
rewriting_keeps_joins_apart setting e other h reaches = reached_apart setting reaches.applications e other h reaches.reached
