-- When the two sides of a join stand apart: its right source and its keys make nothing, and each side keeps from the variable of the other.
use Rattle.std.specs.Prelude.{◌≡◌, ℕ, zero, true, false}
use Rattle.gx_core.specs.declared.expression.BinaryOp.TheVariants as binary
use Rattle.gx_core.specs.declared.operator.Operator.TheVariants as operators
use Rattle.gx_core.specs.Expression.{At, Parts, no_parts, a_part}
use Rattle.gx_growth_laws.specs.Steady.{makes_nothing}
use Rattle.gx_plan.specs.declared.plan.Role.TheVariants.{Join, InJoin}
use Rattle.gx_plan.specs.declared.plan.Carried.{Carried}
use Rattle.gx_plan.specs.Plan.{PlanExpression}
use Rattle.gx_rules.specs.Guards.{is_named_in}
use Rattle.gx_rules.specs.Rules.{RuleSetting}
use Rattle.gx_rules.specs.Normal.{PlanReaches}

-- ---- one join

-- the right source and both keys have no constructor and no call of a declared function; the right source and the right key do not name the
-- left variable, nor the left key the right one
pub record IsApart (left right : ℕ) (source left_key right_key : PlanExpression) : Type 0 where
  pub source_makes_nothing : makes_nothing source ≡ true
  pub left_key_makes_nothing : makes_nothing left_key ≡ true
  pub right_key_makes_nothing : makes_nothing right_key ≡ true
  pub source_without_left : is_named_in source left ≡ false
  pub right_key_without_left : is_named_in right_key left ≡ false
  pub left_key_without_right : is_named_in left_key right ≡ false

-- the comparison of keys in the test of a join
abbrev pub IsComparisonApart : (left right : ℕ) → (source comparison : PlanExpression) → Type 0
IsComparisonApart left right source (At place outer carried (operators.Binary binary.AnyEq) (a_part left_key (a_part right_key no_parts))) =
    (carried.role ≡ InJoin) × IsApart left right source left_key right_key
IsComparisonApart left right source _ = ⊥

-- the test in the inner loop, which gives a result where the keys are equal, and nothing otherwise
abbrev pub IsTestApart : (left right : ℕ) → (source test : PlanExpression) → Type 0
IsTestApart left right source
    (At place outer carried operators.If (a_part comparison (a_part result (a_part (At p o absent operators.Empty no_parts) no_parts)))) =
    (carried.role ≡ InJoin) × ((absent.role ≡ InJoin) × IsComparisonApart left right source comparison)
IsTestApart left right source _ = ⊥

-- the inner loop
abbrev pub IsInnerLoopApart : (left : ℕ) → (inner : PlanExpression) → Type 0
IsInnerLoopApart left (At place outer carried (operators.For binder zero) (a_part source (a_part test no_parts))) =
    (carried.role ≡ InJoin) × IsTestApart left binder.variable source test
IsInnerLoopApart left _ = ⊥

-- a join: two loops and the test inside them, of which the sides stand apart
abbrev pub IsJoinApart : PlanExpression → Type 0
IsJoinApart (At place outer carried (operators.For binder zero) (a_part source (a_part inner no_parts))) = IsInnerLoopApart binder.variable inner
IsJoinApart _ = ⊥

-- ---- all joins of an expression

abbrev mutual
  pub AreJoinsApart : PlanExpression → Type 0
  AreJoinsApart (At place outer carried operator parts) =
      (carried.role ≡ Join → IsJoinApart (At place outer carried operator parts)) × JoinsInPartsAreApart parts

  pub JoinsInPartsAreApart : Parts Carried → Type 0
  JoinsInPartsAreApart no_parts = Unit {0}
  JoinsInPartsAreApart (a_part first others) = AreJoinsApart first × JoinsInPartsAreApart others

-- ---- rewriting

-- joins are apart in what any number of applications of rules lead to, where they are apart in the expression given
abbrev pub RewritingKeepsJoinsApart : Type 0
RewritingKeepsJoinsApart = (setting : RuleSetting) (e other : PlanExpression) → AreJoinsApart e → PlanReaches setting e other → AreJoinsApart other
