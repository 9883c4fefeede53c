-- The joins of a rewritten plan are fair.
use Rattle.std.specs.Prelude.{◌≡◌, List, [], ◌∷◌, ◌++◌, None, Some}
use Rattle.gx_types.specs.SchemaSet.{SchemaSet}
use Rattle.gx_core.specs.declared.expression.Declaration.{Declaration}
use Rattle.gx_core.specs.declared.expression.Declaration.TheVariants.{Global, Function}
use Rattle.gx_core.specs.declared.signature.FunctionSignature.{FunctionSignature}
use Rattle.gx_core.specs.Bindings.{Types}
use Rattle.gx_core.specs.CalledFunctions.{AllCalls}
use Rattle.gx_core.specs.Expression.{At, Parts, no_parts, a_part}
use Rattle.gx_core.specs.Meaning.{CallOutcomes}
use Rattle.gx_core.specs.Queries.{TypedCore}
use Rattle.gx_core.specs.QueryMeaning.{global_types, types_declared}
use Rattle.gx_plan.specs.declared.plan.Role.TheVariants.{Own}
use Rattle.gx_plan.specs.declared.plan.Carried.{Carried}
use Rattle.gx_plan.specs.Compiling.{compiled_query}
use Rattle.gx_plan.specs.Plan.{PlanExpression, PlanQuery, typed_expression, typed_declaration, typed_query}
use Rattle.gx_plan.specs.FullSoundness.{body_types, IsFullySoundQuery}
use Rattle.gx_rules.specs.Normal.{QueryReaches}
use Rattle.gx_rule_laws.specs.QuietValues.{carried_binders, plan_setting}
use Rattle.gx_rule_laws.specs.KeepingSoundness.{plan_rule_setting}
use Rattle.gx_rule_laws.specs.ApartJoins.{AreJoinsApart}
use Rattle.gx_rule_laws.specs.FairJoins.{HasFairJoins}
use Rattle.gx_rule_laws.specs.RewrittenQueries.{typed_function_of, IsOrderlyPlan}

-- ---- plans without joins, as compiled ones are

abbrev mutual
  pub HasNoJoin : PlanExpression → Type 0
  HasNoJoin (At place outer carried operator parts) = (carried.role ≡ Own) × HaveNoJoin parts

  pub HaveNoJoin : Parts Carried → Type 0
  HaveNoJoin no_parts = Unit {0}
  HaveNoJoin (a_part first others) = HasNoJoin first × HaveNoJoin others

abbrev pub DeclarationsHaveNoJoin : List (Declaration Carried) → Type 0
DeclarationsHaveNoJoin [] = Unit {0}
DeclarationsHaveNoJoin (Global name binder (Some value) ∷ others) = HasNoJoin value × DeclarationsHaveNoJoin others
DeclarationsHaveNoJoin (Global name binder None ∷ others) = DeclarationsHaveNoJoin others
DeclarationsHaveNoJoin (Function function ∷ others) = HasNoJoin function.body × DeclarationsHaveNoJoin others

pub record PlanHasNoJoin (plan : PlanQuery) : Type 0 where
  pub declarations : DeclarationsHaveNoJoin plan.declarations
  pub body : HasNoJoin plan.body

abbrev pub CompiledPlansHaveNoJoin : Type 0
CompiledPlansHaveNoJoin = (query : TypedCore) → PlanHasNoJoin (compiled_query query)

-- ---- joins of rewritten plans

-- the joins of what an expression is rewritten to are fair: their sides stand apart, and their right sources and keys have values, whatever
-- functions the expression may call
pub record BecomesFair (schemas : SchemaSet) (variables : Types) (e other : PlanExpression) (types : Types) : Type 0 where
  pub apart : AreJoinsApart other
  pub valued : (known : List FunctionSignature) (calls : CallOutcomes) → AllCalls known (typed_expression e)
      → HasFairJoins (plan_setting schemas variables known calls) other types

abbrev pub DeclarationBecomesFair : SchemaSet → (variables : Types) → (declaration other : Declaration Carried) → Types → Type 0
DeclarationBecomesFair schemas variables (Global name binder (Some value)) (Global other_name other_binder (Some other)) types =
    BecomesFair schemas variables value other types
DeclarationBecomesFair schemas variables (Global name binder None) (Global other_name other_binder None) types = Unit {0}
DeclarationBecomesFair schemas variables (Function function) (Function other) types =
    BecomesFair schemas variables function.body other.body (body_types (typed_function_of function) types)
DeclarationBecomesFair schemas variables _ _ types = ⊥

abbrev pub DeclarationsBecomeFair : SchemaSet → (variables : Types) → (declarations others : List (Declaration Carried)) → Types → Type 0
DeclarationsBecomeFair schemas variables [] [] types = Unit {0}
DeclarationsBecomeFair schemas variables (declaration ∷ declarations) (other ∷ others) types =
    DeclarationBecomesFair schemas variables declaration other types
    × DeclarationsBecomeFair schemas variables declarations others (global_types (typed_declaration declaration) ++ types)
DeclarationsBecomeFair schemas variables _ _ types = ⊥

pub record PlanBecomesFair (schemas : SchemaSet) (variables : Types) (plan other : PlanQuery) : Type 0 where
  pub declarations : DeclarationsBecomeFair schemas variables plan.declarations other.declarations []
  pub body : BecomesFair schemas variables plan.body other.body (types_declared (typed_query plan).declarations [])

-- each join of a plan that is reached from one without joins is fair
abbrev pub RewrittenPlansHaveFairJoins : Type 0
RewrittenPlansHaveFairJoins =
    (schemas : SchemaSet) (variables : Types) (plan other : PlanQuery) → IsFullySoundQuery schemas (carried_binders variables) (typed_query plan)
    → IsOrderlyPlan schemas variables plan → PlanHasNoJoin plan
    → QueryReaches (plan_rule_setting schemas variables) plan other → PlanBecomesFair schemas variables plan other
