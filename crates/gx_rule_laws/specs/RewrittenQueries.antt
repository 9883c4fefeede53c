-- When a rewritten plan has the outcome of the plan given.
use Rattle.std.specs.Prelude.{◌≡◌, ℕ, List, [], ◌∷◌, ◌++◌, None, Some}
use Rattle.gx_types.specs.SchemaSet.{SchemaSet}
use Rattle.gx_types.specs.SchemaInvariant.{IsSchemaSet}
use Rattle.gx_model.specs.Forest.{PlainNode, Forest}
use Rattle.gx_model.specs.Honest.{IsHonest}
use Rattle.gx_core.specs.declared.expression.Declaration.{Declaration}
use Rattle.gx_core.specs.declared.expression.Declaration.TheVariants.{Global, Function}
use Rattle.gx_core.specs.declared.expression.DeclaredFunction.{DeclaredFunction}
use Rattle.gx_core.specs.Queries.{TypedFunction}
use Rattle.gx_core.specs.Bindings.{Types, look_up}
use Rattle.gx_core.specs.QueryMeaning.{plain_query, outcome_within, global_types, types_declared, DocumentsFit}
use Rattle.gx_plan.specs.declared.plan.Carried.{Carried}
use Rattle.gx_plan.specs.Plan.{PlanExpression, PlanQuery, typed_expression, typed_declaration, typed_query}
use Rattle.gx_plan.specs.FullSoundness.{body_types, IsFullySoundQuery}
use Rattle.gx_rules.specs.Normal.{QueryReaches}
use Rattle.gx_rule_laws.specs.KeepingRules.{IsRegular}
use Rattle.gx_rule_laws.specs.QuietValues.{carried_binders}
use Rattle.gx_rule_laws.specs.KeepingSoundness.{AllCountByIntegers, plan_rule_setting}

-- an expression of a plan is regular, its positions carry xs:integer, and variable 0, by which none is meant, has no type where it stands
pub record IsOrderly (variables : Types) (e : PlanExpression) (types : Types) : Type 0 where
  pub regular : IsRegular e
  pub positions : AllCountByIntegers variables e
  pub none_typed : look_up types 0 ≡ None

-- the typed Core that a function of a plan means
abbrev pub typed_function_of : DeclaredFunction Carried → TypedFunction
typed_function_of function =
    record { place = function.place; name = function.name; parameters = function.parameters; result = function.result; body = typed_expression function.body }

abbrev pub IsOrderlyDeclaration : (variables : Types) → Declaration Carried → Types → Type 0
IsOrderlyDeclaration variables (Global name binder (Some value)) types = IsOrderly variables value types
IsOrderlyDeclaration variables (Global name binder None) types = Unit {0}
IsOrderlyDeclaration variables (Function function) types = IsOrderly variables function.body (body_types (typed_function_of function) types)

-- each declaration, under the types of the globals before it
abbrev pub AreOrderlyDeclarations : (variables : Types) → List (Declaration Carried) → Types → Type 0
AreOrderlyDeclarations variables [] types = Unit {0}
AreOrderlyDeclarations variables (declaration ∷ others) types =
    IsOrderlyDeclaration variables declaration types × AreOrderlyDeclarations variables others (global_types (typed_declaration declaration) ++ types)

pub record IsOrderlyPlan (schemas : SchemaSet) (variables : Types) (plan : PlanQuery) : Type 0 where
  pub schemas_kept : IsSchemaSet schemas
  pub none_carries : look_up variables 0 ≡ None
  pub declarations : AreOrderlyDeclarations variables plan.declarations []
  pub body : IsOrderly variables plan.body (types_declared (typed_query plan).declarations [])

-- a plan that any number of applications of rules lead to has the outcome of the one given: the same items, forest and code
abbrev pub RewritingKeepsOutcomes : Type 0
RewritingKeepsOutcomes =
    (limit : ℕ) (schemas : SchemaSet) (variables : Types) (plan other : PlanQuery) (documents : List PlainNode) (forest : Forest)
    → IsHonest schemas forest → DocumentsFit schemas forest (plain_query (typed_query plan)).declarations documents
    → IsFullySoundQuery schemas (carried_binders variables) (typed_query plan) → IsOrderlyPlan schemas variables plan
    → QueryReaches (plan_rule_setting schemas variables) plan other
    → outcome_within limit schemas other documents forest ≡ outcome_within limit schemas plan documents forest
