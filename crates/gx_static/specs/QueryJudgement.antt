-- The judgement of a whole query (XQuery 1.0 and XPath 2.0 Formal Semantics, section 4).
use Rattle.std.specs.Prelude.{◌≡◌, ◌≢◌, ℕ, true, false, List, [], ◌∷◌, ◌++◌, Option, None, Some, ◌⊎◌, if◌then◌else◌}
use Rattle.gx_base.specs.declared.name.Name.{Name}
use Rattle.gx_base.specs.declared.place.Place.{Place}
use Rattle.gx_base.specs.declared.code.Code.{Code}
use Rattle.gx_base.specs.declared.code.Code.TheVariants.{XPST0008, XPTY0004, XQST0054}
use Rattle.gx_base.specs.Code.{is_static}
use Rattle.gx_types.specs.SchemaSet.{SchemaSet}
use Rattle.gx_types.specs.SchemaInvariant.{IsSchemaSet}
use Rattle.gx_core.specs.declared.expression.Binder.{Binder}
use Rattle.gx_core.specs.Queries.{Core, TypedCore, CoreDeclaration, TypedDeclaration, CoreFunction}
use Rattle.gx_core.specs.declared.expression.Declaration.TheVariants.{Global, Function}
use Rattle.gx_core.specs.Bindings.{Types}
use Rattle.gx_core.specs.Expression.{CoreExpression, annotation_of, outer_of}
use Rattle.gx_core.specs.Invariant.{HasQueryVariablesInOrder, CallsDeclaredFunctions}
use Rattle.gx_core.specs.QueryMeaning.{plain_query, global_types, types_declared, parameter_types, IsSoundQuery}
use Rattle.gx_core.specs.Soundness.{TypedExpression}
use Rattle.gx_settling.specs.declared.functions.FunctionUse.{FunctionUse}
use Rattle.gx_settling.specs.Reaching.{function_uses, may_be_evaluated}
use Rattle.gx_static.specs.declared.error.InferError.{InferError}
use Rattle.gx_static.specs.declared.error.InferError.TheVariants.{NoType, Memory}
use Rattle.gx_types.specs.SequenceType.{SequenceType}
use Rattle.gx_static.specs.Rule.{Ruling, has_type, has_none, is_as_written, result_rule}
use Rattle.gx_static.specs.Judgement.{Judged, typed, rejected, with_typed, judged}
use Rattle.gx_static.specs.Failure.{FailsFirst}

-- ---- the judgement

-- the type of a value is included in that which is written at the variable, where the code stands
abbrev pub declared_as : SchemaSet → Name → Binder → TypedExpression → Judged TypedDeclaration
declared_as schemas name binder value =
    if is_as_written schemas binder.kind (annotation_of value) then typed (Global name binder (Some value)) else rejected binder.place XPTY0004

-- a declaration, where a ruling gives a type; a code stands at this place
abbrev pub declared_where : Place → TypedDeclaration → Ruling → Judged TypedDeclaration
declared_where place declaration (has_type t) = typed declaration
declared_where place declaration (has_none code part) = rejected place code

-- a function with a typed body: the codes of its result stand at the outermost parentheses of the body
abbrev pub function_with : SchemaSet → (place : Place) → Name → (parameters : List Binder) → (result : SequenceType) → TypedExpression → Judged TypedDeclaration
function_with schemas place name parameters result body =
    declared_where (outer_of body) (Function (record { place = place; name = name; parameters = parameters; result = result; body = body }))
    (result_rule schemas result (annotation_of body))

abbrev pub declaration_judged : SchemaSet → CoreDeclaration → Types → Judged TypedDeclaration
declaration_judged schemas (Function function) types =
    with_typed (judged schemas function.body (parameter_types function.parameters ++ types))
    (function_with schemas function.place function.name function.parameters function.result)
declaration_judged schemas (Global name binder (Some value)) types = with_typed (judged schemas value types) (declared_as schemas name binder)
declaration_judged schemas (Global name binder None) types = typed (Global name binder None)

-- declarations in order, each under the types of those before it
abbrev pub declarations_judged : SchemaSet → List CoreDeclaration → Types → Judged (List TypedDeclaration)
declarations_judged schemas [] types = typed []
declarations_judged schemas (declaration ∷ others) types =
    with_typed (declaration_judged schemas declaration types)
    (λ d. with_typed (declarations_judged schemas others (global_types d ++ types)) (λ ds. typed (d ∷ ds)))

-- the declarations come before the body
abbrev pub core_typed : SchemaSet → Core → Judged TypedCore
core_typed schemas core =
    with_typed (declarations_judged schemas core.declarations [])
    (λ ds. with_typed (judged schemas core.body (types_declared ds [])) (λ t. typed (record { declarations = ds; body = t })))

-- the variable of the first global whose value cannot be evaluated where it stands, since a function that this reaches names a global
-- that is declared later (XQuery 1.0, section 4.14)
abbrev pub first_unsettled : List FunctionUse → List TypedDeclaration → Types → Option Place
first_unsettled uses [] types = None
first_unsettled uses (Global name binder (Some value) ∷ others) types =
    if may_be_evaluated uses types value then first_unsettled uses others (global_types (Global name binder (Some value)) ++ types) else Some binder.place
first_unsettled uses (declaration ∷ others) types = first_unsettled uses others (global_types declaration ++ types)

abbrev pub unless_unsettled : Option Place → TypedCore → Judged TypedCore
unless_unsettled None query = typed query
unless_unsettled (Some place) query = rejected place XQST0054

-- what has types throughout, and can be evaluated in the order of its declarations; names refuse each other query before it is typed
abbrev pub core_judged : SchemaSet → Core → Judged TypedCore
core_judged schemas core =
    with_typed (core_typed schemas core) (λ query. unless_unsettled (first_unsettled (function_uses core.declarations) query.declarations []) query)

-- the query with the type of each expression in it, or the place and the code of the first expression that has none
pub data QueryJudgement : Type 0 where
  query_typed : (query : TypedCore) → QueryJudgement
  query_rejected : (place : Place) (code : Code) → QueryJudgement

abbrev pub whole_judgement : Judged TypedCore → QueryJudgement
whole_judgement (typed query) = query_typed query
whole_judgement (rejected place code) = query_rejected place code

abbrev pub query_judged : SchemaSet → Core → QueryJudgement
query_judged schemas core = whole_judgement (core_judged schemas core)

-- ---- what fails

-- the value of a global has a type, and this is not included in the type that is written at the variable
pub record IsNotAsWritten (schemas : SchemaSet) (binder : Binder) (value : CoreExpression) (types : Types) (place : Place) (code : Code) : Type 0 where
  pub typing : TypedExpression
  pub judged_value : judged schemas value types ≡ typed typing
  pub refused : is_as_written schemas binder.kind (annotation_of typing) ≡ false
  pub there : place ≡ binder.place
  pub is : code ≡ XPTY0004

-- the body of a function has a type, and its value cannot be converted to the type of the result
pub record IsNotOfResult (schemas : SchemaSet) (function : CoreFunction) (types : Types) (place : Place) (code : Code) : Type 0 where
  pub typing : TypedExpression
  pub part : Option ℕ
  pub judged_body : judged schemas function.body (parameter_types function.parameters ++ types) ≡ typed typing
  pub refused : result_rule schemas function.result (annotation_of typing) ≡ has_none code part
  pub there : place ≡ outer_of typing

abbrev pub DeclarationFails : SchemaSet → CoreDeclaration → Types → Place → Code → Type 0
DeclarationFails schemas (Function function) types place code =
    FailsFirst schemas function.body (parameter_types function.parameters ++ types) place code ⊎ IsNotOfResult schemas function types place code
DeclarationFails schemas (Global name binder (Some value)) types place code =
    FailsFirst schemas value types place code ⊎ IsNotAsWritten schemas binder value types place code
DeclarationFails schemas (Global name binder None) types place code = ⊥

-- the first declaration that fails: all before it have types
abbrev pub DeclarationsFailFirst : SchemaSet → List CoreDeclaration → Types → Place → Code → Type 0
DeclarationsFailFirst schemas [] types place code = ⊥
DeclarationsFailFirst schemas (declaration ∷ others) types place code =
    DeclarationFails schemas declaration types place code
    ⊎ ((d : TypedDeclaration) × (declaration_judged schemas declaration types ≡ typed d) × DeclarationsFailFirst schemas others (global_types d ++ types) place code)

-- a query has types, and this is the variable of the first global whose value cannot be evaluated where it stands
pub record IsUnsettled (schemas : SchemaSet) (core : Core) (place : Place) (code : Code) : Type 0 where
  pub query : TypedCore
  pub judged_query : core_typed schemas core ≡ typed query
  pub there : first_unsettled (function_uses core.declarations) query.declarations [] ≡ Some place
  pub is : code ≡ XQST0054

-- the first expression of the query that fails has this code, at this place; or all have types, and the value of a global cannot be
-- evaluated
abbrev pub QueryFailsFirst : SchemaSet → Core → Place → Code → Type 0
QueryFailsFirst schemas core place code =
    (DeclarationsFailFirst schemas core.declarations [] place code
    ⊎ ((ds : List TypedDeclaration) × (declarations_judged schemas core.declarations [] ≡ typed ds) × FailsFirst schemas core.body (types_declared ds []) place code))
    ⊎ IsUnsettled schemas core place code

-- an error is that of what is judged; want of memory says nothing
abbrev pub Rejects : {R : Type 0} → InferError → Judged R → Type 0
Rejects (NoType place code) judgement = judgement ≡ rejected place code
Rejects Memory judgement = Unit {0}

-- an error of typing is the judgement's; want of memory says nothing
abbrev pub RejectsQuery : InferError → QueryJudgement → Type 0
RejectsQuery (NoType place code) judgement = judgement ≡ query_rejected place code
RejectsQuery Memory judgement = Unit {0}

-- ---- laws

-- what is judged to have a type is the same query with its types, and it is sound where its variables are in order and it calls functions
-- of its own alone
pub record IsQueryTypedSoundly (schemas : SchemaSet) (core : Core) (query : TypedCore) : Type 0 where
  pub same : plain_query query ≡ core
  pub sound : HasQueryVariablesInOrder core → CallsDeclaredFunctions core → IsSoundQuery schemas query

abbrev pub QueryTypingIsSound : Type 0
QueryTypingIsSound = (schemas : SchemaSet) (core : Core) (query : TypedCore) → IsSchemaSet schemas → query_judged schemas core ≡ query_typed query → IsQueryTypedSoundly schemas core query

-- where a query is rejected, the place and the code are those of the first expression in it that fails
abbrev pub QueryRejectionNamesFailure : Type 0
QueryRejectionNamesFailure =
    (schemas : SchemaSet) (core : Core) (place : Place) (code : Code) → query_judged schemas core ≡ query_rejected place code → QueryFailsFirst schemas core place code

-- where each variable of a query stands in the scope of its binder, none is rejected
abbrev pub QueryVariablesHaveTypes : Type 0
QueryVariablesHaveTypes =
    (schemas : SchemaSet) (core : Core) (place : Place) (code : Code) → HasQueryVariablesInOrder core → query_judged schemas core ≡ query_rejected place code → code ≢ XPST0008

-- a query is rejected with the code of a static error
abbrev pub QueriesAreRejectedWithStaticCodes : Type 0
QueriesAreRejectedWithStaticCodes =
    (schemas : SchemaSet) (core : Core) (place : Place) (code : Code) → query_judged schemas core ≡ query_rejected place code → is_static code ≡ true
