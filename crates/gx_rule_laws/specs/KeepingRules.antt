-- When a rule of rewriting keeps what an expression comes to.
use Rattle.std.specs.Prelude.{◌≡◌, ◌≢◌, Some}
use Rattle.gx_types.specs.SchemaInvariant.{IsSchemaSet}
use Rattle.gx_core.specs.declared.operator.Operator.{Operator}
use Rattle.gx_core.specs.declared.operator.Operator.TheVariants as operators
use Rattle.gx_core.specs.Bindings.{Types}
use Rattle.gx_core.specs.Expression.{At, Parts, no_parts, a_part}
use Rattle.gx_core.specs.Meaning.{meaning}
use Rattle.gx_core.specs.Soundness.{Setting, context_of, IsSound}
use Rattle.gx_core.specs.WrittenTypes.{AreWrittenCases}
use Rattle.gx_plan.specs.declared.plan.Carried.{Carried}
use Rattle.gx_plan.specs.Plan.{PlanExpression, typed_expression}
use Rattle.gx_plan.specs.Fitting.{IsWellBound}
use Rattle.gx_plan.specs.SameMeaning.{ComesToTheSame}
use Rattle.gx_rules.specs.Rules.{RuleSetting, RewritingRule, rewritten_by}

-- ---- where a rule is asked

-- an operator names no variable 0, by which none is meant; a loop has one variable for its item and another one for the position; and the
-- types of cases are such as can be written
abbrev pub IsRegularOperator : Operator → Type 0
IsRegularOperator (operators.Var number) = number ≢ 0
IsRegularOperator (operators.Step axis asks number) = number ≢ 0
IsRegularOperator (operators.For binder position) = position ≢ binder.variable
IsRegularOperator (operators.Switch cases default) = AreWrittenCases cases
IsRegularOperator _ = Unit {0}

-- so does each operator in an expression
abbrev mutual
  pub IsRegular : PlanExpression → Type 0
  IsRegular (At place outer carried operator parts) = IsRegularOperator operator × AreRegular parts

  pub AreRegular : Parts Carried → Type 0
  AreRegular no_parts = Unit {0}
  AreRegular (a_part first others) = IsRegular first × AreRegular others

-- an expression of a plan stands where variables have types: it is sound there, and what its operators bind belongs to the types of the
-- variables
pub record StandsWell (setting : Setting) (e : PlanExpression) (types : Types) : Type 0 where
  pub schemas : IsSchemaSet setting.schemas
  pub regular : IsRegular e
  pub sound : IsSound setting (typed_expression e) types
  pub well_bound : IsWellBound setting (typed_expression e) types

-- ---- what a rule keeps

-- what a setting says of a plan whose variables have these types
abbrev pub rule_setting_of : Setting → (variables : Types) → RuleSetting
rule_setting_of setting variables = record { schemas = setting.schemas; variables = variables }

-- where a rule applies to an expression, what it gives comes to the same: it has the same items, leaves the same forest, or raises the same
-- code
abbrev pub KeepsWhereApplied : Setting → (variables : Types) → RewritingRule → Type 0
KeepsWhereApplied setting variables rule =
    (e other : PlanExpression) (types : Types) → StandsWell setting e types → rewritten_by (rule_setting_of setting variables) rule e ≡ Some other
    → ComesToTheSame setting (meaning (context_of setting) (typed_expression other)) (typed_expression e) types

abbrev pub RuleKeeps : RewritingRule → Type 0
RuleKeeps rule = (setting : Setting) (variables : Types) → KeepsWhereApplied setting variables rule
