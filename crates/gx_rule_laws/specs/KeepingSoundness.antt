-- When rewriting keeps what plans come to: each rule hands on that an expression stands well, and so do any number of applications.
use Rattle.std.specs.Prelude.{◌≡◌, ◌≢◌, List, None, Some}
use Rattle.gx_base.specs.declared.type_name.Builtin.TheVariants.{Integer}
use Rattle.gx_types.specs.SchemaSet.{SchemaSet}
use Rattle.gx_core.specs.declared.operator.Operator.{Operator}
use Rattle.gx_core.specs.declared.operator.Operator.TheVariants as operators
use Rattle.gx_core.specs.declared.signature.FunctionSignature.{FunctionSignature}
use Rattle.gx_core.specs.Bindings.{Types, look_up}
use Rattle.gx_core.specs.Expression.{At, Parts, no_parts, a_part}
use Rattle.gx_core.specs.Meaning.{CallOutcomes, meaning}
use Rattle.gx_core.specs.Soundness.{context_of}
use Rattle.gx_static.specs.Rule.{atomic}
use Rattle.gx_plan.specs.declared.plan.Carried.{Carried}
use Rattle.gx_plan.specs.Plan.{PlanExpression, typed_expression}
use Rattle.gx_plan.specs.SameMeaning.{ComesToTheSame}
use Rattle.gx_rules.specs.Rules.{RuleSetting, RewritingRule, rewritten_by}
use Rattle.gx_rules.specs.Normal.{PlanReaches}
use Rattle.gx_rule_laws.specs.KeepingRules.{StandsWell}
use Rattle.gx_rule_laws.specs.QuietValues.{plan_setting}

-- ---- where an expression of a plan stands

-- the variable of a position carries xs:integer
abbrev pub CountsByIntegers : (variables : Types) → Operator → Type 0
CountsByIntegers variables (operators.For binder position) = position ≢ 0 → look_up variables position ≡ Some (atomic Integer)
CountsByIntegers variables _ = Unit {0}

-- so does each in an expression
abbrev mutual
  pub AllCountByIntegers : (variables : Types) → PlanExpression → Type 0
  AllCountByIntegers variables (At place outer carried operator parts) = CountsByIntegers variables operator × PartsCountByIntegers variables parts

  pub PartsCountByIntegers : (variables : Types) → Parts Carried → Type 0
  PartsCountByIntegers variables no_parts = Unit {0}
  PartsCountByIntegers variables (a_part first others) = AllCountByIntegers variables first × PartsCountByIntegers variables others

-- an expression stands in a plan whose variables carry these types: it stands well, and variable 0, by which none is meant, has no type
pub record StandsInPlan (schemas : SchemaSet) (variables : Types) (known : List FunctionSignature) (calls : CallOutcomes) (e : PlanExpression)
    (types : Types) : Type 0 where
  pub stands : StandsWell (plan_setting schemas variables known calls) e types
  pub positions : AllCountByIntegers variables e
  pub none_carries : look_up variables 0 ≡ None
  pub none_typed : look_up types 0 ≡ None

-- ---- what rules hand on

abbrev pub plan_rule_setting : SchemaSet → (variables : Types) → RuleSetting
plan_rule_setting schemas variables = record { schemas = schemas; variables = variables }

-- what a rule gives stands in the plan again
abbrev pub RuleHandsOn : RewritingRule → Type 0
RuleHandsOn rule =
    (schemas : SchemaSet) (variables : Types) (known : List FunctionSignature) (calls : CallOutcomes) (e other : PlanExpression) (types : Types)
    → StandsInPlan schemas variables known calls e types → rewritten_by (plan_rule_setting schemas variables) rule e ≡ Some other
    → StandsInPlan schemas variables known calls other types

abbrev pub RulesHandOn : Type 0
RulesHandOn = (rule : RewritingRule) → RuleHandsOn rule

-- what any number of applications lead to stands in the plan again, and comes to the same
pub record IsRewrittenWell (schemas : SchemaSet) (variables : Types) (known : List FunctionSignature) (calls : CallOutcomes)
    (e other : PlanExpression) (types : Types) : Type 0 where
  pub stands : StandsInPlan schemas variables known calls other types
  pub same : ComesToTheSame (plan_setting schemas variables known calls)
      (meaning (context_of (plan_setting schemas variables known calls)) (typed_expression other)) (typed_expression e) types

abbrev pub RewritingKeeps : Type 0
RewritingKeeps =
    (schemas : SchemaSet) (variables : Types) (known : List FunctionSignature) (calls : CallOutcomes) (e other : PlanExpression) (types : Types)
    → StandsInPlan schemas variables known calls e types → PlanReaches (plan_rule_setting schemas variables) e other
    → IsRewrittenWell schemas variables known calls e other types
