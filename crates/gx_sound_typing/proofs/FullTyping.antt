-- What is judged to have types is fully sound.
use Rattle.std.proofs.Common.{◌≡◌, Bool, true, false, List, [], ◌∷◌, ◌++◌, Option, None, Some, ap, subst, if◌then◌else◌}
use Rattle.gx_base.specs.declared.name.Name.{Name}
use Rattle.gx_base.specs.declared.place.Place.{Place}
use Rattle.gx_base.specs.declared.code.Code.TheVariants.{XPTY0004}
use Rattle.gx_types.specs.SchemaSet.{SchemaSet}
use Rattle.gx_types.specs.SchemaInvariant.{IsSchemaSet}
use Rattle.gx_core.specs.declared.expression.Binder.{Binder}
use Rattle.gx_core.specs.declared.expression.Declaration.TheVariants.{Global, Function}
use Rattle.gx_core.specs.Queries.{Core, TypedCore, CoreDeclaration, TypedDeclaration, CoreFunction, TypedFunction}
use Rattle.gx_core.specs.Expression.{annotation_of, outer_of, plain}
use Rattle.gx_core.specs.Bindings.{Types, types_bound}
use Rattle.gx_core.specs.QueryMeaning.{global_types, types_declared, parameter_types, functions_declared, DeclarationsAreSound, IsSoundQuery}
use Rattle.gx_core.specs.Soundness.{TypedExpression}
use Rattle.gx_settling.specs.Reaching.{function_uses}
use Rattle.gx_static.specs.Rule.{Ruling, has_type, has_none, is_as_written, result_rule}
use Rattle.gx_static.specs.Judgement.{Judged, typed, rejected, with_typed, judged}
use Rattle.gx_static.specs.QueryJudgement.{query_typed, whole_judgement, declared_as, declared_where, function_with, declaration_judged, declarations_judged, core_typed, first_unsettled, unless_unsettled, core_judged, query_judged}
use Rattle.gx_static.proofs.SoundTyping.{IfTyped, made_holds, sound}
use Rattle.gx_static.proofs.QueryLaws.{query_sound}
use Rattle.gx_plan.specs.FullSoundness.{body_types, IsFullySound, DeclarationsAreFullySound, IsFullySoundQuery}
use Rattle.gx_plan.proofs.ReplacingParts.{sound_expressions_are_well_bound}
use Rattle.gx_sound_typing.specs.FullTyping.{TypedExpressionsAreFullySound, TypedQueriesAreFullySound}
use Rattle.gx_sound_typing.proofs.TypedTrees.{HasItsTypes, expression_has, types_are_judged}
use Rattle.gx_sound_typing.proofs.NamedVariables.{types_where_named}
use Rattle.gx_sound_typing.proofs.TakenArguments.{calls_take}

-- ---- typed declarations

abbrev pub DeclarationHasItsTypes : SchemaSet → TypedDeclaration → Types → Type 0
DeclarationHasItsTypes s (Global name binder (Some value)) types = HasItsTypes s value types
DeclarationHasItsTypes s (Global name binder None) types = Unit {0}
DeclarationHasItsTypes s (Function function) types = HasItsTypes s function.body (parameter_types function.parameters ++ types)

abbrev pub DeclarationsHaveTheirTypes : SchemaSet → List TypedDeclaration → Types → Type 0
DeclarationsHaveTheirTypes s [] types = Unit {0}
DeclarationsHaveTheirTypes s (d ∷ ds) types = DeclarationHasItsTypes s d types × DeclarationsHaveTheirTypes s ds (global_types d ++ types)

pub record QueryHasItsTypes (s : SchemaSet) (query : TypedCore) : Type 0 where
  pub declarations : DeclarationsHaveTheirTypes s query.declarations []
  pub body : HasItsTypes s query.body (types_declared query.declarations [])

-- ---- what is judged to have types has them

declared_has : (s : SchemaSet) (name : Name) (binder : Binder) (types : Types) (t : TypedExpression) → HasItsTypes s t types
    → IfTyped (λ d. DeclarationHasItsTypes s d types) (declared_as s name binder t)
declared_has s name binder types t h =
    elim (is_as_written s binder.kind (annotation_of t)) as (λ (b : Bool). IfTyped (λ d. DeclarationHasItsTypes s d types) (if b then typed (Global name binder (Some t)) else rejected binder.place XPTY0004)) [
      | true ↦ h
      | false ↦ tt
    ]

function_has : (s : SchemaSet) (function : CoreFunction) (types : Types) (t : TypedExpression) → HasItsTypes s t (parameter_types function.parameters ++ types)
    → IfTyped (λ d. DeclarationHasItsTypes s d types) (function_with s function.place function.name function.parameters function.result t)
function_has s function types t h = by_ruling (result_rule s function.result (annotation_of t))
  where
    by_ruling : (r : Ruling) → IfTyped (λ d. DeclarationHasItsTypes s d types)
        (declared_where (outer_of t) (Function (record { place = function.place; name = function.name; parameters = function.parameters; result = function.result; body = t })) r)
    by_ruling (has_type u) = h
    by_ruling (has_none code part) = tt

declaration_has : (s : SchemaSet) (d : CoreDeclaration) (types : Types) → IfTyped (λ t. DeclarationHasItsTypes s t types) (declaration_judged s d types)
declaration_has s (Global name binder (Some value)) types =
    made_holds (judged s value types) (declared_as s name binder) (λ t. HasItsTypes s t types) (λ t. DeclarationHasItsTypes s t types) (expression_has s value types)
    (λ t h. declared_has s name binder types t h)
declaration_has s (Global name binder None) types = tt
declaration_has s (Function function) types =
    let inner : Types = parameter_types function.parameters ++ types in
    made_holds (judged s function.body inner) (function_with s function.place function.name function.parameters function.result)
    (λ t. HasItsTypes s t inner) (λ t. DeclarationHasItsTypes s t types) (expression_has s function.body inner) (λ t h. function_has s function types t h)

declarations_have : (s : SchemaSet) (ds : List CoreDeclaration) (types : Types) → IfTyped (λ ts. DeclarationsHaveTheirTypes s ts types) (declarations_judged s ds types)
declarations_have s [] types = tt
declarations_have s (d ∷ ds) types =
    made_holds (declaration_judged s d types) (λ t. with_typed (declarations_judged s ds (global_types t ++ types)) (λ ts. typed (t ∷ ts)))
    (λ t. DeclarationHasItsTypes s t types) (λ ts. DeclarationsHaveTheirTypes s ts types) (declaration_has s d types)
    (λ t h. made_holds (declarations_judged s ds (global_types t ++ types)) (λ ts. typed (t ∷ ts))
    (λ ts. DeclarationsHaveTheirTypes s ts (global_types t ++ types)) (λ ts. DeclarationsHaveTheirTypes s ts types)
    (declarations_have s ds (global_types t ++ types)) (λ ts k. (h, k)))

core_has : (s : SchemaSet) (core : Core) → IfTyped (QueryHasItsTypes s) (core_typed s core)
core_has s core =
    made_holds (declarations_judged s core.declarations []) (λ ds. with_typed (judged s core.body (types_declared ds [])) (λ t. typed (record { declarations = ds; body = t })))
    (λ ts. DeclarationsHaveTheirTypes s ts []) (QueryHasItsTypes s) (declarations_have s core.declarations [])
    (λ ds h. made_holds (judged s core.body (types_declared ds [])) (λ t. typed (record { declarations = ds; body = t })) (λ t. HasItsTypes s t (types_declared ds [])) (QueryHasItsTypes s)
    (expression_has s core.body (types_declared ds [])) (λ t k. record { declarations = h; body = k }))

settled_has : (s : SchemaSet) (core : Core) → IfTyped (QueryHasItsTypes s) (core_judged s core)
settled_has s core =
    made_holds (core_typed s core) (λ query. unless_unsettled (first_unsettled (function_uses core.declarations) query.declarations []) query) (QueryHasItsTypes s) (QueryHasItsTypes s)
    (core_has s core) (λ query h. by_place query h (first_unsettled (function_uses core.declarations) query.declarations []))
  where
    by_place : (query : TypedCore) → QueryHasItsTypes s query → (o : Option Place) → IfTyped (QueryHasItsTypes s) (unless_unsettled o query)
    by_place query h None = h
    by_place query h (Some place) = tt

-- stands in gx_static/proofs/QueryLaws too
whole_typed : (j : Judged TypedCore) (query : TypedCore) → whole_judgement j ≡ query_typed query → j ≡ typed query
whole_typed (typed q) query h = let same : q ≡ query = cc in ap (λ (x : TypedCore). typed x) same
whole_typed (rejected place code) query h = cc

pub query_has : (s : SchemaSet) (core : Core) (query : TypedCore) → query_judged s core ≡ query_typed query → QueryHasItsTypes s query
query_has s core query j = subst (IfTyped (QueryHasItsTypes s)) (whole_typed (core_judged s core) query j) (settled_has s core)

-- ---- what has its types is fully sound

pub full : (s : SchemaSet) → IsSchemaSet s → (t : TypedExpression) (types : Types) → HasItsTypes s t types → IsFullySound s types_bound t types
full s is t types h =
    let w = sound s (plain t) types t is (types_are_judged s t types h) in
    record {
      arguments = calls_take s is t types h;
      sound = w.sound;
      well_bound = λ known calls all. sound_expressions_are_well_bound s known calls t types (w.sound known calls all);
    }

pub typed_expressions_are_fully_sound : TypedExpressionsAreFullySound
typed_expressions_are_fully_sound s e types t is j = full s is t types (subst (IfTyped (λ u. HasItsTypes s u types)) j (expression_has s e types))

pub declarations_full : (s : SchemaSet) → IsSchemaSet s → (functions : List (TypedFunction × Types)) (ds : List TypedDeclaration) (types : Types) → DeclarationsHaveTheirTypes s ds types
    → DeclarationsAreSound s functions ds types → DeclarationsAreFullySound s types_bound functions ds types
declarations_full s is functions [] types have are = tt
declarations_full s is functions (Global name binder (Some value) ∷ ds) types have are = (
  (full s is value types have.0, are.0.1),
  declarations_full s is functions ds (global_types (Global name binder (Some value)) ++ types) have.1 are.1,
)
declarations_full s is functions (Global name binder None ∷ ds) types have are =
    (tt, declarations_full s is functions ds (global_types (Global name binder None) ++ types) have.1 are.1)
declarations_full s is functions (Function function ∷ ds) types have are = (
  record {
    body = full s is function.body (body_types function types) (types_where_named s function.body (parameter_types function.parameters ++ types) have.0);
    converts = are.0.converts;
  },
  declarations_full s is functions ds types have.1 are.1,
)

pub query_full : (s : SchemaSet) → IsSchemaSet s → (query : TypedCore) → QueryHasItsTypes s query → IsSoundQuery s query → IsFullySoundQuery s types_bound query
query_full s is query have are = record {
  declarations = declarations_full s is (functions_declared query.declarations []) query.declarations [] have.declarations are.declarations;
  body = full s is query.body (types_declared query.declarations []) have.body;
  calls = are.calls;
}

pub typed_queries_are_fully_sound : TypedQueriesAreFullySound
typed_queries_are_fully_sound s core query is j order calls = query_full s is query (query_has s core query j) ((query_sound s core query is j).sound order calls)
