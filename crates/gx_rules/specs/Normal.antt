-- Plans that rules lead from and to, and plans to which no rule applies.
use Rattle.std.specs.Prelude.{◌≡◌, ℕ, zero, suc, List, [], ◌∷◌, None, Some, ◌⊎◌}
use Rattle.gx_types.specs.SchemaSet.{SchemaSet}
use Rattle.gx_core.specs.declared.expression.Declaration.{Declaration}
use Rattle.gx_core.specs.declared.expression.Declaration.TheVariants.{Global, Function}
use Rattle.gx_core.specs.declared.expression.DeclaredFunction.{DeclaredFunction}
use Rattle.gx_core.specs.Expression.{At, Parts, no_parts, a_part}
use Rattle.gx_plan.specs.declared.plan.Carried.{Carried}
use Rattle.gx_plan.specs.declared.plan.Plan.{Plan}
use Rattle.gx_plan.specs.Plan.{PlanExpression, PlanQuery}
use Rattle.gx_rules.specs.Rules.{RuleSetting, RewritingRule, rewritten_by}

-- ---- one application of a rule

-- a rule applies to an expression, and gives another
pub record Applies (setting : RuleSetting) (e other : PlanExpression) : Type 0 where
  pub rule : RewritingRule
  pub gives : rewritten_by setting rule e ≡ Some other

-- at an expression, or at one place inside it, around which all stays
abbrev mutual
  pub StepsTo : RuleSetting → PlanExpression → PlanExpression → Type 0
  StepsTo setting (At place outer carried operator parts) other =
      Applies setting (At place outer carried operator parts) other
      ⊎ ((others : Parts Carried) × (other ≡ At place outer carried operator others) × PartStepsTo setting parts others)

  pub PartStepsTo : RuleSetting → Parts Carried → Parts Carried → Type 0
  PartStepsTo setting no_parts others = ⊥
  PartStepsTo setting (a_part e es) others =
      ((other : PlanExpression) × (others ≡ a_part other es) × StepsTo setting e other)
      ⊎ ((rest : Parts Carried) × (others ≡ a_part e rest) × PartStepsTo setting es rest)

-- ---- any number of them

-- by so many applications, one behind the other
abbrev pub ReachesIn : {P : Type 0} → (P → P → Type 0) → ℕ → P → P → Type 0
ReachesIn Steps zero p other = p ≡ other
ReachesIn {P} Steps (suc n) p other = (next : P) × Steps p next × ReachesIn Steps n next other

pub record ReachesBy {P : Type 0} (Steps : P → P → Type 0) (p other : P) : Type 0 where
  pub applications : ℕ
  pub reached : ReachesIn Steps applications p other

abbrev pub PlanReaches : RuleSetting → PlanExpression → PlanExpression → Type 0
PlanReaches setting e other = ReachesBy (StepsTo setting) e other

-- ---- no rule applies to an expression, nor to any inside it

abbrev mutual
  pub IsNormal : RuleSetting → PlanExpression → Type 0
  IsNormal setting (At place outer carried operator parts) =
      ((rule : RewritingRule) → rewritten_by setting rule (At place outer carried operator parts) ≡ None) × AreNormal setting parts

  pub AreNormal : RuleSetting → Parts Carried → Type 0
  AreNormal setting no_parts = Unit {0}
  AreNormal setting (a_part first others) = IsNormal setting first × AreNormal setting others

-- ---- whole plans: in the value of a global variable, in the body of a function, or in the body of the query

abbrev pub function_over : DeclaredFunction Carried → PlanExpression → DeclaredFunction Carried
function_over function body =
    record { place = function.place; name = function.name; parameters = function.parameters; result = function.result; body = body }

abbrev pub DeclarationStepsTo : RuleSetting → Declaration Carried → Declaration Carried → Type 0
DeclarationStepsTo setting (Global name binder None) declared = ⊥
DeclarationStepsTo setting (Global name binder (Some value)) declared =
    (other : PlanExpression) × (declared ≡ Global name binder (Some other)) × StepsTo setting value other
DeclarationStepsTo setting (Function function) declared =
    (other : PlanExpression) × (declared ≡ Function (function_over function other)) × StepsTo setting function.body other

abbrev pub DeclarationsStepTo : RuleSetting → List (Declaration Carried) → List (Declaration Carried) → Type 0
DeclarationsStepTo setting [] declared = ⊥
DeclarationsStepTo setting (d ∷ ds) declared =
    ((other : Declaration Carried) × (declared ≡ other ∷ ds) × DeclarationStepsTo setting d other)
    ⊎ ((others : List (Declaration Carried)) × (declared ≡ d ∷ others) × DeclarationsStepTo setting ds others)

abbrev pub QueryStepsTo : RuleSetting → PlanQuery → PlanQuery → Type 0
QueryStepsTo setting query other =
    (DeclarationsStepTo setting query.declarations other.declarations × (other.body ≡ query.body))
    ⊎ ((other.declarations ≡ query.declarations) × StepsTo setting query.body other.body)

abbrev pub QueryReaches : RuleSetting → PlanQuery → PlanQuery → Type 0
QueryReaches setting query other = ReachesBy (QueryStepsTo setting) query other

abbrev pub IsNormalDeclaration : RuleSetting → Declaration Carried → Type 0
IsNormalDeclaration setting (Global name binder None) = Unit {0}
IsNormalDeclaration setting (Global name binder (Some value)) = IsNormal setting value
IsNormalDeclaration setting (Function function) = IsNormal setting function.body

abbrev pub AreNormalDeclarations : RuleSetting → List (Declaration Carried) → Type 0
AreNormalDeclarations setting [] = Unit {0}
AreNormalDeclarations setting (d ∷ ds) = IsNormalDeclaration setting d × AreNormalDeclarations setting ds

pub record IsNormalQuery (setting : RuleSetting) (query : PlanQuery) : Type 0 where
  pub declarations : AreNormalDeclarations setting query.declarations
  pub body : IsNormal setting query.body

-- ---- rewriting

-- what the rules look at: the schemas, and the types that the variables of a plan carry
abbrev pub setting_of : SchemaSet → Plan → RuleSetting
setting_of schemas plan = record { schemas = schemas; variables = plan.variables }

-- a plan to which no rule applies
abbrev pub IsNormalPlan : SchemaSet → Plan → Type 0
IsNormalPlan schemas plan = IsNormalQuery (setting_of schemas plan) plan.query

-- a plan that the rules lead to, and to which no rule applies
pub record IsRewritten (setting : RuleSetting) (query other : PlanQuery) : Type 0 where
  pub reached : QueryReaches setting query other
  pub normal : IsNormalQuery setting other
