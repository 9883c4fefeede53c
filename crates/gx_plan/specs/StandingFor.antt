-- When an expression, a function or a whole query may stand for another: where they come to the same, also where the functions that they call
-- are stood for.
use Rattle.std.specs.Prelude.{◌≡◌, ℕ, List, [], ◌∷◌, ◌++◌, None, Some, Contains}
use Rattle.gx_types.specs.SchemaSet.{SchemaSet}
use Rattle.gx_model.specs.Forest.{PlainNode, Forest}
use Rattle.gx_model.specs.Honest.{IsHonest}
use Rattle.gx_model.specs.Item.{Items}
use Rattle.gx_model.specs.Growth.{Extends}
use Rattle.gx_core.specs.declared.expression.Query.{Query}
use Rattle.gx_core.specs.declared.expression.Declaration.{Declaration}
use Rattle.gx_core.specs.declared.expression.Declaration.TheVariants.{Global, Function}
use Rattle.gx_core.specs.declared.expression.DeclaredFunction.{DeclaredFunction}
use Rattle.gx_core.specs.declared.signature.FunctionSignature.{FunctionSignature}
use Rattle.gx_core.specs.Queries.{TypedCore, TypedDeclaration, TypedFunction}
use Rattle.gx_core.specs.CalledFunctions.{AllCalls}
use Rattle.gx_core.specs.Expression.{Expression}
use Rattle.gx_core.specs.Bindings.{Types}
use Rattle.gx_core.specs.Meaning.{CallOutcomes, meaning}
use Rattle.gx_core.specs.QueryMeaning.{plain_query, outcome_within, global_types, types_declared, functions_declared, CallsCallable, IsSoundQuery, DocumentsFit}
use Rattle.gx_core.specs.Soundness.{TypedExpression, Setting, calling_setting, AreOfTypes, Situation, KeepsItsType}
use Rattle.gx_plan.specs.SameMeaning.{ComesToTheSame}
use Rattle.gx_plan.specs.FullSoundness.{Binders, IsFullySound, body_types, ConvertsItsResult}

-- ---- expressions

-- other calls come to the same as those of a setting, from arguments of the types of the parameters, in this forest and in each one that
-- grows from it
abbrev pub CallsAgree : Setting → (others : CallOutcomes) → Forest → Type 0
CallsAgree setting others forest =
    (now : Forest) (signature : FunctionSignature) (values : List Items) → Contains setting.known signature → Extends forest now
    → IsHonest setting.schemas now → AreOfTypes setting.schemas signature.parameters now values
    → others signature values now ≡ setting.calls signature values now

-- an expression may stand for another: it comes to the same in each situation of these types, whatever functions the other may call,
-- also where calls of these are replaced by calls that agree with them
abbrev pub MayStandFor : {A : Type 0} → SchemaSet → (other : Expression A) → TypedExpression → Types → Type 0
MayStandFor schemas other e types =
    (known : List FunctionSignature) (calls others : CallOutcomes) → AllCalls known e
    → (situation : Situation (calling_setting schemas known calls) types)
    → CallsAgree (calling_setting schemas known calls) others situation.forest
    → meaning (record { schemas = schemas; calls = others }) other situation.bindings situation.forest
    ≡ meaning (record { schemas = schemas; calls = calls }) e situation.bindings situation.forest

-- an expression comes to the same as another in each situation of these types, whatever functions the other may call
abbrev pub IsSameExpression : {A : Type 0} → SchemaSet → (other : Expression A) → TypedExpression → Types → Type 0
IsSameExpression schemas other e types =
    (known : List FunctionSignature) (calls : CallOutcomes) → AllCalls known e
    → ComesToTheSame (calling_setting schemas known calls) (meaning (record { schemas = schemas; calls = calls }) other) e types

-- what comes to the same as a fully sound expression may stand for it
abbrev pub SameExpressionsMayStandFor : (A : Type 0) → Type 0
SameExpressionsMayStandFor A =
    (schemas : SchemaSet) (binders : Binders) (e : TypedExpression) (other : Expression A) (types : Types)
    → IsFullySound schemas binders e types → IsSameExpression schemas other e types → MayStandFor schemas other e types

-- ---- whole queries

-- a function may stand for another: its parameters and its result are the same, and its body may stand for that of the other where those
-- variables alone that this one names have types
pub record FunctionMayStandFor {A : Type 0} (schemas : SchemaSet) (other : DeclaredFunction A) (function : TypedFunction) (before : Types) : Type 0 where
  pub parameters : other.parameters ≡ function.parameters
  pub result : other.result ≡ function.result
  pub body : MayStandFor schemas other.body function.body (body_types function before)

abbrev pub DeclarationMayStandFor : {A : Type 0} → SchemaSet → Declaration A → TypedDeclaration → Types → Type 0
DeclarationMayStandFor schemas (Global name binder (Some other)) (Global own_name own_binder (Some value)) types =
    (binder ≡ own_binder) × MayStandFor schemas other value types
DeclarationMayStandFor schemas (Global name binder None) (Global own_name own_binder None) types = binder ≡ own_binder
DeclarationMayStandFor schemas (Function other) (Function function) types = FunctionMayStandFor schemas other function types
DeclarationMayStandFor schemas _ _ types = ⊥

-- each declaration, under the types of the globals before it
abbrev pub DeclarationsMayStandFor : {A : Type 0} → SchemaSet → List (Declaration A) → List TypedDeclaration → Types → Type 0
DeclarationsMayStandFor schemas [] [] types = Unit {0}
DeclarationsMayStandFor schemas (other ∷ others) (declaration ∷ declarations) types =
    DeclarationMayStandFor schemas other declaration types
    × DeclarationsMayStandFor schemas others declarations (global_types declaration ++ types)
DeclarationsMayStandFor schemas [] (declaration ∷ declarations) types = ⊥
DeclarationsMayStandFor schemas (other ∷ others) [] types = ⊥

pub record QueryMayStandFor {A : Type 0} (schemas : SchemaSet) (other : Query A) (query : TypedCore) : Type 0 where
  pub declarations : DeclarationsMayStandFor schemas other.declarations query.declarations []
  pub body : MayStandFor schemas other.body query.body (types_declared query.declarations [])

-- ---- queries whose values keep their types

-- whatever functions an expression may call, where calls of these keep their types
abbrev pub KeepsItsTypeWithCalls : SchemaSet → TypedExpression → Types → Type 0
KeepsItsTypeWithCalls schemas e types =
    (known : List FunctionSignature) (calls : CallOutcomes) → AllCalls known e → KeepsItsType (calling_setting schemas known calls) e types

pub record FunctionKeepsItsTypes (schemas : SchemaSet) (function : TypedFunction) (before : Types) : Type 0 where
  pub body : KeepsItsTypeWithCalls schemas function.body (body_types function before)
  pub converts : ConvertsItsResult schemas function

abbrev pub DeclarationKeepsItsTypes : SchemaSet → List (TypedFunction × Types) → TypedDeclaration → Types → Type 0
DeclarationKeepsItsTypes schemas functions (Global name binder (Some value)) types =
    KeepsItsTypeWithCalls schemas value types × CallsCallable functions types value
DeclarationKeepsItsTypes schemas functions (Global name binder None) types = Unit {0}
DeclarationKeepsItsTypes schemas functions (Function function) types = FunctionKeepsItsTypes schemas function types

abbrev pub DeclarationsKeepTheirTypes : SchemaSet → List (TypedFunction × Types) → List TypedDeclaration → Types → Type 0
DeclarationsKeepTheirTypes schemas functions [] types = Unit {0}
DeclarationsKeepTheirTypes schemas functions (declaration ∷ others) types =
    DeclarationKeepsItsTypes schemas functions declaration types
    × DeclarationsKeepTheirTypes schemas functions others (global_types declaration ++ types)

-- the values of globals, of the bodies of functions and of the body keep their types, and calls are of functions that may be called
pub record QueryKeepsItsTypes (schemas : SchemaSet) (query : TypedCore) : Type 0 where
  pub declarations : DeclarationsKeepTheirTypes schemas (functions_declared query.declarations []) query.declarations []
  pub body : KeepsItsTypeWithCalls schemas query.body (types_declared query.declarations [])
  pub calls : CallsCallable (functions_declared query.declarations []) (types_declared query.declarations []) query.body

-- those of a sound query do
abbrev pub PartsOfSoundQueriesKeepTheirTypes : Type 0
PartsOfSoundQueriesKeepTheirTypes = (schemas : SchemaSet) (query : TypedCore) → IsSoundQuery schemas query → QueryKeepsItsTypes schemas query

-- a query that may stand for another, whose values keep their types, has its outcome, however many calls may be active
abbrev pub StandInsHaveTheOutcome : (A : Type 0) → Type 0
StandInsHaveTheOutcome A =
    (limit : ℕ) (schemas : SchemaSet) (query : TypedCore) (other : Query A) (documents : List PlainNode) (forest : Forest)
    → IsHonest schemas forest → DocumentsFit schemas forest (plain_query query).declarations documents → QueryKeepsItsTypes schemas query
    → QueryMayStandFor schemas other query
    → outcome_within limit schemas other documents forest ≡ outcome_within limit schemas query documents forest
