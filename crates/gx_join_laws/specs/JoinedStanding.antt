-- When a plan with hash joins may stand for a typed query: where its expressions come to the same, also where the functions that they call are stood for.
use Rattle.std.specs.Prelude.{◌≡◌, ℕ, List, [], ◌∷◌, ◌++◌, None, Some}
use Rattle.gx_types.specs.SchemaSet.{SchemaSet}
use Rattle.gx_model.specs.Forest.{PlainNode, Forest}
use Rattle.gx_model.specs.Honest.{IsHonest}
use Rattle.gx_core.specs.declared.expression.Declaration.TheVariants.{Global, Function}
use Rattle.gx_core.specs.declared.signature.FunctionSignature.{FunctionSignature}
use Rattle.gx_core.specs.Queries.{TypedCore, TypedDeclaration, TypedFunction}
use Rattle.gx_core.specs.CalledFunctions.{AllCalls}
use Rattle.gx_core.specs.Bindings.{Types}
use Rattle.gx_core.specs.Meaning.{CallOutcomes, meaning}
use Rattle.gx_core.specs.QueryMeaning.{plain_query, outcome_within, global_types, types_declared, DocumentsFit}
use Rattle.gx_core.specs.Soundness.{TypedExpression, calling_setting, Situation}
use Rattle.gx_plan.specs.Plan.{PlanExpression, PlanQuery, FunctionOfPlan, DeclarationOfPlan}
use Rattle.gx_plan.specs.FullSoundness.{body_types}
use Rattle.gx_plan.specs.StandingFor.{CallsAgree, MayStandFor, QueryKeepsItsTypes}
use Rattle.gx_joins.specs.JoinedMeaning.{joined_meaning, joined_outcome}
use Rattle.gx_join_laws.specs.FairMeaning.{IsReadyToJoin}

-- ---- expressions

-- an expression of a plan with hash joins comes to the same as a typed expression in each situation of these types, whatever functions that may call,
-- also where calls of these are replaced by calls that agree with them
abbrev pub JoinedMayStandFor : SchemaSet → (other : PlanExpression) → TypedExpression → Types → Type 0
JoinedMayStandFor schemas other e types =
    (known : List FunctionSignature) (calls others : CallOutcomes) → AllCalls known e
    → (situation : Situation (calling_setting schemas known calls) types)
    → CallsAgree (calling_setting schemas known calls) others situation.forest
    → joined_meaning (record { schemas = schemas; calls = others }) other situation.bindings situation.forest
    ≡ meaning (record { schemas = schemas; calls = calls }) e situation.bindings situation.forest

-- what may stand for an expression may do so with hash joins, where its joins are fair whatever functions it may call
abbrev pub FairJoinsMayStandFor : Type 0
FairJoinsMayStandFor =
    (schemas : SchemaSet) (variables : Types) (e : TypedExpression) (other : PlanExpression) (types : Types)
    → ((known : List FunctionSignature) (calls : CallOutcomes) → AllCalls known e → IsReadyToJoin schemas variables known calls other types)
    → MayStandFor schemas other e types → JoinedMayStandFor schemas other e types

-- ---- whole queries

pub record JoinedFunctionMayStandFor (schemas : SchemaSet) (other : FunctionOfPlan) (function : TypedFunction) (before : Types) : Type 0 where
  pub parameters : other.parameters ≡ function.parameters
  pub result : other.result ≡ function.result
  pub body : JoinedMayStandFor schemas other.body function.body (body_types function before)

abbrev pub JoinedDeclarationMayStandFor : SchemaSet → DeclarationOfPlan → TypedDeclaration → Types → Type 0
JoinedDeclarationMayStandFor schemas (Global name binder (Some other)) (Global own_name own_binder (Some value)) types =
    (binder ≡ own_binder) × JoinedMayStandFor schemas other value types
JoinedDeclarationMayStandFor schemas (Global name binder None) (Global own_name own_binder None) types = binder ≡ own_binder
JoinedDeclarationMayStandFor schemas (Function other) (Function function) types = JoinedFunctionMayStandFor schemas other function types
JoinedDeclarationMayStandFor schemas _ _ types = ⊥

-- each declaration, under the types of the globals before it
abbrev pub JoinedDeclarationsMayStandFor : SchemaSet → List DeclarationOfPlan → List TypedDeclaration → Types → Type 0
JoinedDeclarationsMayStandFor schemas [] [] types = Unit {0}
JoinedDeclarationsMayStandFor schemas (other ∷ others) (declaration ∷ declarations) types =
    JoinedDeclarationMayStandFor schemas other declaration types
    × JoinedDeclarationsMayStandFor schemas others declarations (global_types declaration ++ types)
JoinedDeclarationsMayStandFor schemas [] (declaration ∷ declarations) types = ⊥
JoinedDeclarationsMayStandFor schemas (other ∷ others) [] types = ⊥

pub record JoinedQueryMayStandFor (schemas : SchemaSet) (other : PlanQuery) (query : TypedCore) : Type 0 where
  pub declarations : JoinedDeclarationsMayStandFor schemas other.declarations query.declarations []
  pub body : JoinedMayStandFor schemas other.body query.body (types_declared query.declarations [])

-- a plan that may stand for a query with hash joins has its outcome, however many calls may be active
abbrev pub JoinedStandInsHaveTheOutcome : Type 0
JoinedStandInsHaveTheOutcome =
    (limit : ℕ) (schemas : SchemaSet) (query : TypedCore) (other : PlanQuery) (documents : List PlainNode) (forest : Forest)
    → IsHonest schemas forest → DocumentsFit schemas forest (plain_query query).declarations documents → QueryKeepsItsTypes schemas query
    → JoinedQueryMayStandFor schemas other query
    → joined_outcome limit schemas other documents forest ≡ outcome_within limit schemas query documents forest
