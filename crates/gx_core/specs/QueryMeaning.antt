-- Whole queries: what one means, and when one with its types is sound.
use Rattle.std.specs.Prelude.{◌≡◌, ℕ, true, List, [], ◌∷◌, ◌++◌, map, Option, None, Some, option_map, Contains}
use Rattle.std.specs.List.{slice_get}
use Rattle.gx_base.specs.declared.code.Code.{Code}
use Rattle.gx_base.specs.declared.limits.TheConstants.{ACTIVE_CALLS}
use Rattle.gx_base.specs.Code.{is_dynamic}
use Rattle.gx_types.specs.SchemaSet.{SchemaSet}
use Rattle.gx_types.specs.SequenceType.{SequenceType}
use Rattle.gx_model.specs.Forest.{PlainNode, Forest}
use Rattle.gx_model.specs.Honest.{IsHonest}
use Rattle.gx_model.specs.Item.{node, Items}
use Rattle.gx_model.specs.Belongs.{Belongs}
use Rattle.gx_core.specs.declared.expression.Binder.{Binder}
use Rattle.gx_core.specs.declared.expression.Query.{Query}
use Rattle.gx_core.specs.declared.expression.Declaration.{Declaration}
use Rattle.gx_core.specs.declared.expression.Declaration.TheVariants.{Global, Function}
use Rattle.gx_core.specs.declared.expression.DeclaredFunction.{DeclaredFunction}
use Rattle.gx_core.specs.declared.signature.FunctionSignature.{FunctionSignature}
use Rattle.gx_core.specs.Queries.{Core, TypedCore, CoreDeclaration, TypedDeclaration, CoreFunction, TypedFunction}
use Rattle.gx_core.specs.Expression.{plain, annotation_of}
use Rattle.gx_core.specs.Bindings.{Types, look_up}
use Rattle.gx_core.specs.Outcome.{Outcome, gives, raises, wrong, after}
use Rattle.gx_core.specs.Meaning.{CallOutcomes, Bindings, meaning}
use Rattle.gx_core.specs.Converting.{converted}
use Rattle.gx_core.specs.Functions.{functions_of, context_over}
use Rattle.gx_core.specs.CalledFunctions.{type_of_parameter, signature_of, AllCalls}
use Rattle.gx_core.specs.FreeVariables.{is_free_in, FitsFree}
use Rattle.gx_core.specs.Soundness.{TypedExpression, typed_setting, calling_setting, Keeps, CallsKeepTypes, IsSoundWithCalls}

-- ---- the query without its types, and the type of its value

abbrev pub plain_function : TypedFunction → CoreFunction
plain_function function =
    record { place = function.place; name = function.name; parameters = function.parameters; result = function.result; body = plain function.body }

abbrev pub plain_declaration : TypedDeclaration → CoreDeclaration
plain_declaration (Global name binder value) = Global name binder (option_map plain value)
plain_declaration (Function function) = Function (plain_function function)

abbrev pub plain_query : TypedCore → Core
plain_query query = record { declarations = map plain_declaration query.declarations; body = plain query.body }

abbrev pub query_type : TypedCore → SequenceType
query_type query = annotation_of query.body

-- ---- meaning

-- the globals, each evaluated once and in order, used or not, in the forest that the one before leaves, where so many calls may be
-- active; an external variable is bound to the next of the documents
abbrev pub globals_bound : {A : Type 0} → SchemaSet → List (DeclaredFunction A) → (limit : ℕ) → List (Declaration A)
    → (documents : List PlainNode) → Bindings → Forest → Outcome Bindings
globals_bound schemas functions limit [] documents bindings forest = gives bindings forest
globals_bound schemas functions limit (Function function ∷ others) documents bindings forest =
    globals_bound schemas functions limit others documents bindings forest
globals_bound schemas functions limit (Global name binder (Some value) ∷ others) documents bindings forest =
    after (meaning (context_over schemas functions bindings limit) value bindings forest)
    (λ items left. globals_bound schemas functions limit others documents ((binder.variable, items) ∷ bindings) left)
globals_bound schemas functions limit (Global name binder None ∷ others) [] bindings forest = wrong
globals_bound schemas functions limit (Global name binder None ∷ others) (document ∷ documents) bindings forest =
    globals_bound schemas functions limit others documents ((binder.variable, node document ∷ []) ∷ bindings) forest

-- what it comes to, with these document nodes of the forest, where so many calls may be active: the globals, and then the body
abbrev pub outcome_within : {A : Type 0} → (limit : ℕ) → SchemaSet → Query A → (documents : List PlainNode) → Forest → Outcome Items
outcome_within limit schemas query documents forest =
    after (globals_bound schemas (functions_of query.declarations) limit query.declarations documents [] forest)
    (λ bindings left. meaning (context_over schemas (functions_of query.declarations) bindings limit) query.body bindings left)

abbrev pub query_outcome : SchemaSet → Core → (documents : List PlainNode) → Forest → Outcome Items
query_outcome schemas core documents forest = outcome_within ACTIVE_CALLS schemas core documents forest

-- ---- soundness

-- an external variable has its declared type
abbrev pub external_types : Binder → Option SequenceType → Types
external_types binder None = []
external_types binder (Some t) = (binder.variable, t) ∷ []

-- a global variable has the type of its value
abbrev pub global_types : TypedDeclaration → Types
global_types (Global name binder (Some value)) = (binder.variable, annotation_of value) ∷ []
global_types (Global name binder None) = external_types binder binder.kind
global_types (Function function) = []

-- the types of the globals behind those that are in scope
abbrev pub types_declared : List TypedDeclaration → Types → Types
types_declared [] types = types
types_declared (declaration ∷ others) types = types_declared others (global_types declaration ++ types)

-- each parameter has the type that is written at it
abbrev pub parameter_types : List Binder → Types
parameter_types [] = []
parameter_types (parameter ∷ others) = (parameter.variable, type_of_parameter parameter) ∷ parameter_types others

-- the functions of declarations, each with the types of the globals that are declared before it
abbrev pub functions_declared : List TypedDeclaration → Types → List (TypedFunction × Types)
functions_declared [] types = []
functions_declared (Global name binder value ∷ others) types = functions_declared others (global_types (Global name binder value) ++ types)
functions_declared (Function function ∷ others) types = (function, types) ∷ functions_declared others types

-- a function is sound behind globals of these types: its body is, and keeps its type also where those variables alone that it names are
-- bound to values of their types; and the value of the body can be converted to the type of the result
pub record IsSoundFunction (schemas : SchemaSet) (function : TypedFunction) (before : Types) : Type 0 where
  pub body : IsSoundWithCalls schemas function.body (parameter_types function.parameters ++ before)
  pub keeps : (known : List FunctionSignature) (calls : CallOutcomes) (bindings : Bindings) (forest : Forest) → AllCalls known function.body
      → IsHonest schemas forest → CallsKeepTypes (calling_setting schemas known calls) forest
      → FitsFree schemas forest function.body (parameter_types function.parameters ++ before) bindings
      → Keeps (typed_setting schemas) forest (annotation_of function.body)
      (meaning (record { schemas = schemas; calls = calls }) function.body bindings forest)
  pub converts : (forest : Forest) (value : Items) → IsHonest schemas forest → Belongs schemas forest value (annotation_of function.body)
      → Keeps (typed_setting schemas) forest function.result (converted schemas function.result value forest)

-- a function may be called where globals of these types are bound: it calls known functions alone, and the globals that its body names
-- are bound, with the types that they have where it is declared
pub record IsCallable (functions : List (TypedFunction × Types)) (types : Types) (known : List FunctionSignature)
    (signature : FunctionSignature) : Type 0 where
  pub function : TypedFunction
  pub before : Types
  pub declared : slice_get functions signature.number ≡ Some (function, before)
  pub is : signature ≡ signature_of signature.number function
  pub calls : AllCalls known function.body
  pub named : (number : ℕ) (t : SequenceType) → is_free_in function.body number ≡ true
      → look_up (parameter_types function.parameters) number ≡ None → look_up before number ≡ Some t → look_up types number ≡ Some t

-- an expression calls functions alone that may be called where globals of these types are bound
pub record CallsCallable (functions : List (TypedFunction × Types)) (types : Types) (e : TypedExpression) : Type 0 where
  pub known : List FunctionSignature
  pub calls : AllCalls known e
  pub callable : (signature : FunctionSignature) → Contains known signature → IsCallable functions types known signature

abbrev pub IsSoundDeclaration : SchemaSet → List (TypedFunction × Types) → TypedDeclaration → Types → Type 0
IsSoundDeclaration schemas functions (Global name binder (Some value)) types =
    IsSoundWithCalls schemas value types × CallsCallable functions types value
IsSoundDeclaration schemas functions (Global name binder None) types = Unit {0}
IsSoundDeclaration schemas functions (Function function) types = IsSoundFunction schemas function types

-- each declaration, under the types of the globals before it
abbrev pub DeclarationsAreSound : SchemaSet → List (TypedFunction × Types) → List TypedDeclaration → Types → Type 0
DeclarationsAreSound schemas functions [] types = Unit {0}
DeclarationsAreSound schemas functions (declaration ∷ others) types =
    IsSoundDeclaration schemas functions declaration types
    × DeclarationsAreSound schemas functions others (global_types declaration ++ types)

-- no expression of it goes wrong, and the value of each belongs to its type
pub record IsSoundQuery (schemas : SchemaSet) (query : TypedCore) : Type 0 where
  pub declarations : DeclarationsAreSound schemas (functions_declared query.declarations []) query.declarations []
  pub body : IsSoundWithCalls schemas query.body (types_declared query.declarations [])
  pub calls : CallsCallable (functions_declared query.declarations []) (types_declared query.declarations []) query.body

-- ---- documents

-- a document is of the declared type
abbrev pub IsDeclaredSo : SchemaSet → Forest → Option SequenceType → PlainNode → Type 0
IsDeclaredSo schemas forest None document = ⊥
IsDeclaredSo schemas forest (Some t) document = Belongs schemas forest (node document ∷ []) t

-- there is a document for each external variable, of its declared type
abbrev pub DocumentsFit : SchemaSet → Forest → List CoreDeclaration → (documents : List PlainNode) → Type 0
DocumentsFit schemas forest [] documents = Unit {0}
DocumentsFit schemas forest (Function function ∷ others) documents = DocumentsFit schemas forest others documents
DocumentsFit schemas forest (Global name binder (Some value) ∷ others) documents = DocumentsFit schemas forest others documents
DocumentsFit schemas forest (Global name binder None ∷ others) [] = ⊥
DocumentsFit schemas forest (Global name binder None ∷ others) (document ∷ documents) =
    IsDeclaredSo schemas forest binder.kind document × DocumentsFit schemas forest others documents

-- no variable is external
abbrev pub HasNoExternal : List CoreDeclaration → Type 0
HasNoExternal [] = Unit {0}
HasNoExternal (Function function ∷ others) = HasNoExternal others
HasNoExternal (Global name binder (Some value) ∷ others) = HasNoExternal others
HasNoExternal (Global name binder None ∷ others) = ⊥

-- a query without external variables needs no document
abbrev pub NoneNeedsNoDocument : Type 0
NoneNeedsNoDocument =
    (schemas : SchemaSet) (forest : Forest) (declarations : List CoreDeclaration) → HasNoExternal declarations
    → DocumentsFit schemas forest declarations []

-- a query that is sound is no type error, and its value belongs to its type, however many calls may be active
abbrev pub SoundQueriesKeepTheirTypes : Type 0
SoundQueriesKeepTheirTypes =
    (limit : ℕ) (schemas : SchemaSet) (query : TypedCore) (documents : List PlainNode) (forest : Forest)
    → IsHonest schemas forest → DocumentsFit schemas forest (plain_query query).declarations documents → IsSoundQuery schemas query
    → Keeps (typed_setting schemas) forest (query_type query) (outcome_within limit schemas (plain_query query) documents forest)

-- the meaning of a query with its types is that of the same query without them
abbrev pub QueryMeaningLooksAtNoType : Type 0
QueryMeaningLooksAtNoType =
    (limit : ℕ) (schemas : SchemaSet) (query : TypedCore) (documents : List PlainNode) (forest : Forest)
    → outcome_within limit schemas (plain_query query) documents forest ≡ outcome_within limit schemas query documents forest

-- ---- errors

-- the evaluation of a query raises the codes of dynamic errors alone
abbrev pub QueriesRaiseDynamicCodes : Type 0
QueriesRaiseDynamicCodes =
    (limit : ℕ) (schemas : SchemaSet) (core : Core) (documents : List PlainNode) (forest : Forest) (code : Code)
    → outcome_within limit schemas core documents forest ≡ raises code → is_dynamic code ≡ true
