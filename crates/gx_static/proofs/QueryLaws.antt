-- The laws of whole queries, from those of expressions.
use Rattle.std.proofs.Common.{◌≡◌, ◌≢◌, ◌⊎◌, ℕ, ◌+◌, Bool, true, false, List, [], ◌∷◌, ◌++◌, map, Option, None, Some, inl, inr, refl, sym, ◌∙◌, ap, subst, if◌then◌else◌, Result, Ok, Err, rules}
use Rattle.std.specs.List.{All}
use Rattle.std.specs.Prelude.{IfOk}
use Rattle.gx_static.specs.declared.error.InferError.{InferError}
use Rattle.gx_core.specs.QueryMeaning.{IsSoundQuery}
use Rattle.gx_static.specs.QueryJudgement.{query_judged}
use Rattle.std.proofs.lemmas.List.Elements.{All-tail}
use Rattle.gx_base.specs.declared.name.Name.{Name}
use Rattle.gx_base.specs.declared.place.Place.{Place}
use Rattle.gx_base.specs.declared.code.Code.{Code}
use Rattle.gx_base.specs.declared.code.Code.TheVariants.{XPST0008, XPTY0004}
use Rattle.gx_types.specs.SchemaSet.{SchemaSet}
use Rattle.gx_types.specs.SchemaInvariant.{IsSchemaSet}
use Rattle.gx_types.specs.SequenceType.{SequenceType}
use Rattle.gx_core.specs.declared.expression.Binder.{Binder}
use Rattle.gx_core.specs.Queries.{Core, TypedCore, CoreDeclaration, TypedDeclaration, CoreFunction, TypedFunction}
use Rattle.gx_core.specs.declared.expression.Declaration.TheVariants.{Global, Function}
use Rattle.gx_core.specs.Bindings.{Types}
use Rattle.gx_core.specs.Expression.{CoreExpression, annotation_of, outer_of, plain}
use Rattle.gx_core.specs.Invariant.{IsScoped, scope_behind, parameter_numbers, AreValuesScoped, numbers_bound, HasValueOrType, HasQueryVariablesInOrder, CallsInDeclarations, CallsDeclaredFunctions}
use Rattle.gx_core.specs.QueryMeaning.{plain_query, plain_declaration, global_types, types_declared, parameter_types, functions_declared, IsSoundFunction, DeclarationsAreSound}
use Rattle.gx_core.specs.Soundness.{TypedExpression, typed_setting, calling_setting, IsOfType, Keeps, CallsKeepTypes, IsSoundWithCalls}
use Rattle.gx_core.specs.declared.signature.FunctionSignature.{FunctionSignature}
use Rattle.gx_core.specs.CalledFunctions.{AllCalls}
use Rattle.gx_core.specs.Converting.{converted}
use Rattle.gx_core.specs.FreeVariables.{FitsFree}
use Rattle.gx_core.specs.Meaning.{CallOutcomes, Context, Bindings, meaning}
use Rattle.gx_core.specs.Outcome.{Outcome}
use Rattle.gx_core.proofs.PlainMeaning.{meaning_looks_at_no_type}
use Rattle.gx_include.specs.Decision.{is_included}
use Rattle.gx_model.specs.Forest.{Forest}
use Rattle.gx_model.specs.Honest.{IsHonest}
use Rattle.gx_model.specs.Item.{Items}
use Rattle.gx_model.specs.Belongs.{Belongs}
use Rattle.gx_settling.specs.Reaching.{function_uses, may_be_evaluated}
use Rattle.gx_settling.specs.declared.functions.FunctionUse.{FunctionUse}
use Rattle.gx_settling.specs.Laws.{declared_signatures, AreNew}
use Rattle.gx_settling.proofs.CallableFunctions.{calls_are_callable, body_calls_are_callable}
use Rattle.gx_settling.proofs.GlobalTypes.{globals_are_new, others_are_new, new_keep_their_types}
use Rattle.gx_static.specs.Rule.{Ruling, has_type, has_none, type_if, is_as_written, converted_type, included_ruling, result_rule}
use Rattle.gx_static.specs.Judgement.{Judged, typed, rejected, with_typed, judged}
use Rattle.gx_static.specs.Failure.{FailsFirst}
use Rattle.gx_static.specs.Laws.{IsTypedSoundly}
use Rattle.gx_static.specs.QueryJudgement.{query_typed, query_rejected, whole_judgement, declared_as, declared_where, function_with, declaration_judged, declarations_judged, core_typed, first_unsettled, unless_unsettled, core_judged, DeclarationFails, DeclarationsFailFirst, QueryFailsFirst, IsQueryTypedSoundly, QueryTypingIsSound, QueryRejectionNamesFailure, QueryVariablesHaveTypes}
use Rattle.gx_static.proofs.SoundTyping.{IfTyped, made_holds, judged_holds}
use Rattle.gx_static.proofs.Failing.{IfRejected, made_fails, judged_fails}
use Rattle.gx_static.proofs.ScopedVariables.{Bound, in_scope, in_scope_joined, converted_code, judged_bound}
use Rattle.gx_static.proofs.CalledTyping.{with_types, without_types, free_without_types}
use Rattle.gx_static.proofs.FreeVariables.{typing_is_sound_on_free_variables}
use Rattle.gx_static.proofs.Keeping.{type_so, keeps_without_calls}
use Rattle.gx_static.proofs.UserCalls.{converted_values_belong}

-- ---- what is typed is sound

-- the value of a global and the body of a function
abbrev IsTypedWell : SchemaSet → TypedDeclaration → Types → Type 0
IsTypedWell s (Global name binder (Some value)) types = IsSoundWithCalls s value types
IsTypedWell s (Global name binder None) types = Unit {0}
IsTypedWell s (Function function) types = IsSoundFunction s function types

abbrev AreTypedWell : SchemaSet → List TypedDeclaration → Types → Type 0
AreTypedWell s [] types = Unit {0}
AreTypedWell s (d ∷ ds) types = IsTypedWell s d types × AreTypedWell s ds (global_types d ++ types)

record IsDeclaredSoundly (s : SchemaSet) (d : CoreDeclaration) (types : Types) (t : TypedDeclaration) : Type 0 where
  same : plain_declaration t ≡ d
  sound : IsTypedWell s t types

record AreDeclaredSoundly (s : SchemaSet) (ds : List CoreDeclaration) (types : Types) (ts : List TypedDeclaration) : Type 0 where
  same : map plain_declaration ts ≡ ds
  sound : AreTypedWell s ts types

record IsCoreTyped (s : SchemaSet) (core : Core) (query : TypedCore) : Type 0 where
  same : plain_query query ≡ core
  declarations : AreTypedWell s query.declarations []
  body : IsSoundWithCalls s query.body (types_declared query.declarations [])

declared_holds : (s : SchemaSet) (name : Name) (binder : Binder) (value : CoreExpression) (types : Types) (t : TypedExpression) → IsTypedSoundly s value types t
    → IfTyped (IsDeclaredSoundly s (Global name binder (Some value)) types) (declared_as s name binder t)
declared_holds s name binder value types t h =
    elim (is_as_written s binder.kind (annotation_of t)) as (λ (b : Bool). IfTyped (IsDeclaredSoundly s (Global name binder (Some value)) types) (if b then typed (Global name binder (Some t)) else rejected binder.place XPTY0004)) [
      | true ↦ record { same = ap (λ (e : CoreExpression). Global name binder (Some e)) h.same; sound = h.sound }
      | false ↦ tt
    ]

-- the body keeps its type where the variables alone that it names are bound
body_keeps : (s : SchemaSet) → IsSchemaSet s → (e : CoreExpression) (types : Types) (t : TypedExpression) → judged s e types ≡ typed t → plain t ≡ e
    → (known : List FunctionSignature) (calls : CallOutcomes) (bindings : Bindings) (forest : Forest) → AllCalls known t → IsHonest s forest → CallsKeepTypes (calling_setting s known calls) forest
    → FitsFree s forest t types bindings → Keeps (typed_setting s) forest (annotation_of t) (meaning (record { schemas = s; calls = calls }) t bindings forest)
body_keeps s is e types t j same known calls bindings forest all honest keep fits =
    let k : Context = record { schemas = s; calls = calls } in
    keeps_without_calls s known calls forest (IsOfType s (annotation_of t)) (meaning k t bindings forest)
    (subst (λ (o : Outcome Items). Keeps (calling_setting s known calls) forest (annotation_of t) o)
    (ap (λ (c : CoreExpression). meaning k c bindings forest) (sym same) ∙ meaning_looks_at_no_type k t bindings forest)
    (typing_is_sound_on_free_variables s e types t known calls bindings forest is j (subst (λ (c : CoreExpression). AllCalls known c) same (without_types known t all)) honest keep
    (subst (λ (c : CoreExpression). FitsFree s forest c types bindings) same (λ number u free found. fits number u (sym (free_without_types t number) ∙ free) found))))

result_converts : (s : SchemaSet) → IsSchemaSet s → (expected body u : SequenceType) (r : Ruling) → converted_type s expected body ≡ r → included_ruling s expected r ≡ has_type u
    → (forest : Forest) (value : Items) → IsHonest s forest → Belongs s forest value body → Keeps (typed_setting s) forest expected (converted s expected value forest)
result_converts s is expected body u (has_type t) e f forest value honest b =
    converted_values_belong s expected body t forest value is honest e (type_so (is_included s t expected) t u f).0 b
result_converts s is expected body u (has_none code part) e f forest value honest b = absurd (cc)

-- a function with a typed body, and the types behind its parameters
abbrev with_body : CoreFunction → TypedExpression → TypedFunction
with_body function t = record { place = function.place; name = function.name; parameters = function.parameters; result = function.result; body = t }

abbrev types_inside : CoreFunction → Types → Types
types_inside function types = parameter_types function.parameters ++ types

function_holds : (s : SchemaSet) → IsSchemaSet s → (function : CoreFunction) (types : Types) (t : TypedExpression) → judged s function.body (parameter_types function.parameters ++ types) ≡ typed t
    → IsTypedSoundly s function.body (parameter_types function.parameters ++ types) t
    → IfTyped (IsDeclaredSoundly s (Function function) types) (function_with s function.place function.name function.parameters function.result t)
function_holds s is function types t j h = by_ruling (result_rule s function.result (annotation_of t)) refl
  where
    by_ruling : (r : Ruling) → result_rule s function.result (annotation_of t) ≡ r → IfTyped (IsDeclaredSoundly s (Function function) types) (declared_where (outer_of t) (Function (with_body function t)) r)
    by_ruling (has_none code part) e = tt
    by_ruling (has_type u) e = record {
      same = ap (λ (b : CoreExpression). let f : CoreFunction = record { place = function.place; name = function.name; parameters = function.parameters; result = function.result; body = b } in let d : CoreDeclaration = Function f in d) h.same;
      sound = record {
        body = h.sound;
        keeps = body_keeps s is function.body (parameter_types function.parameters ++ types) t j h.same;
        converts = result_converts s is function.result (annotation_of t) u (converted_type s function.result (annotation_of t)) refl e;
      };
    }

-- what has types, and that it does
with_equation : {R : Type 0} (P : R → Type 0) (j : Judged R) → IfTyped P j → IfTyped (λ x. P x × (j ≡ typed x)) j
with_equation P (typed x) h = (h, refl)
with_equation P (rejected place code) h = tt

declaration_holds : (s : SchemaSet) → IsSchemaSet s → (d : CoreDeclaration) (types : Types) → IfTyped (IsDeclaredSoundly s d types) (declaration_judged s d types)
declaration_holds s is (Global name binder (Some value)) types =
    made_holds (judged s value types) (declared_as s name binder) (IsTypedSoundly s value types) (IsDeclaredSoundly s (Global name binder (Some value)) types) (judged_holds s is value types)
    (λ t h. declared_holds s name binder value types t h)
declaration_holds s is (Global name binder None) types = record { same = refl; sound = tt }
declaration_holds s is (Function function) types =
    let inner : Types = parameter_types function.parameters ++ types in
    made_holds (judged s function.body inner) (function_with s function.place function.name function.parameters function.result)
    (λ t. IsTypedSoundly s function.body inner t × (judged s function.body inner ≡ typed t)) (IsDeclaredSoundly s (Function function) types)
    (with_equation (IsTypedSoundly s function.body inner) (judged s function.body inner) (judged_holds s is function.body inner)) (λ t h. function_holds s is function types t h.1 h.0)

declarations_hold : (s : SchemaSet) → IsSchemaSet s → (ds : List CoreDeclaration) (types : Types) → IfTyped (AreDeclaredSoundly s ds types) (declarations_judged s ds types)
declarations_hold s is [] types = record { same = refl; sound = tt }
declarations_hold s is (d ∷ ds) types =
    made_holds (declaration_judged s d types) (λ t. with_typed (declarations_judged s ds (global_types t ++ types)) (λ ts. typed (t ∷ ts)))
    (IsDeclaredSoundly s d types) (AreDeclaredSoundly s (d ∷ ds) types) (declaration_holds s is d types)
    (λ t h. made_holds (declarations_judged s ds (global_types t ++ types)) (λ ts. typed (t ∷ ts)) (AreDeclaredSoundly s ds (global_types t ++ types)) (AreDeclaredSoundly s (d ∷ ds) types)
    (declarations_hold s is ds (global_types t ++ types))
    (λ ts k. record { same = ap (λ (e : CoreDeclaration). e ∷ map plain_declaration ts) h.same ∙ ap (λ (es : List CoreDeclaration). d ∷ es) k.same; sound = (h.sound, k.sound) }))

core_holds : (s : SchemaSet) → IsSchemaSet s → (core : Core) → IfTyped (IsCoreTyped s core) (core_typed s core)
core_holds s is core =
    made_holds (declarations_judged s core.declarations []) (λ ds. with_typed (judged s core.body (types_declared ds [])) (λ t. typed (record { declarations = ds; body = t })))
    (AreDeclaredSoundly s core.declarations []) (IsCoreTyped s core) (declarations_hold s is core.declarations [])
    (λ ds h. made_holds (judged s core.body (types_declared ds [])) (λ t. typed (record { declarations = ds; body = t })) (IsTypedSoundly s core.body (types_declared ds [])) (IsCoreTyped s core)
    (judged_holds s is core.body (types_declared ds []))
    (λ t k. record {
      same = ap (λ (es : List CoreDeclaration). let c : Core = record { declarations = es; body = plain t } in c) h.same ∙ ap (λ (e : CoreExpression). let c : Core = record { declarations = core.declarations; body = e } in c) k.same;
      declarations = h.sound;
      body = k.sound;
    }))

-- ---- the functions that are called may be called

settled_first : (b : Bool) (rest : Option Place) (place : Place) → (if b then rest else Some place) ≡ None → (b ≡ true) × (rest ≡ None)
settled_first true rest place e = (refl, e)
settled_first false rest place e = absurd (cc)

-- the declarations that are left, behind the others of a query
declarations_sound : (s : SchemaSet) (all : List TypedDeclaration) → CallsInDeclarations (declared_signatures (map plain_declaration all)) (map plain_declaration all) → AreNew all []
    → (rest : List TypedDeclaration) (types : Types) → types_declared all [] ≡ types_declared rest types → AreNew rest types
    → CallsInDeclarations (declared_signatures (map plain_declaration all)) (map plain_declaration rest) → first_unsettled (function_uses (map plain_declaration all)) rest types ≡ None → AreTypedWell s rest types
    → DeclarationsAreSound s (functions_declared all []) rest types
declarations_sound s all in_all first [] types behind new calls settled h = tt
declarations_sound s all in_all first (Global name binder None ∷ rest) types behind new calls settled h =
    let d : TypedDeclaration = Global name binder None in
    (tt, declarations_sound s all in_all first rest (global_types d ++ types) behind (others_are_new d rest types new) calls settled h.1)
declarations_sound s all in_all first (Function function ∷ rest) types behind new calls settled h =
    (h.0, declarations_sound s all in_all first rest types behind (others_are_new (Function function) rest types new) calls.1 settled h.1)
declarations_sound s all in_all first (Global name binder (Some value) ∷ rest) types behind new calls settled h =
    let d : TypedDeclaration = Global name binder (Some value) in
    let inner : Types = global_types d ++ types in
    let uses : List FunctionUse = function_uses (map plain_declaration all) in
    let p = settled_first (may_be_evaluated uses types value) (first_unsettled uses rest inner) binder.place settled in (
      (h.0, calls_are_callable all types value in_all (with_types (declared_signatures (map plain_declaration all)) value calls.0) p.0 (new_keep_their_types all (d ∷ rest) types first new behind)),
      declarations_sound s all in_all first rest inner behind (others_are_new d rest types new) calls.1 p.1 h.1,
    )

settled_sound : (s : SchemaSet) (query : TypedCore) → AreTypedWell s query.declarations [] → IsSoundWithCalls s query.body (types_declared query.declarations [])
    → first_unsettled (function_uses (map plain_declaration query.declarations)) query.declarations [] ≡ None → HasQueryVariablesInOrder (plain_query query) → CallsDeclaredFunctions (plain_query query)
    → IsSoundQuery s query
settled_sound s query declarations body settled order calls =
    let ds : List TypedDeclaration = query.declarations in
    let new : AreNew ds [] = globals_are_new ds (numbers_bound (plain query.body)) order.once in
    record {
      declarations = declarations_sound s ds calls.declarations new ds [] refl new calls.declarations settled declarations;
      body = body;
      calls = body_calls_are_callable ds query.body calls.declarations (with_types (declared_signatures (map plain_declaration ds)) query.body calls.body) new;
    }

query_holds : (s : SchemaSet) → IsSchemaSet s → (core : Core) → IfTyped (IsQueryTypedSoundly s core) (core_judged s core)
query_holds s is core =
    made_holds (core_typed s core) (λ query. unless_unsettled (first_unsettled (function_uses core.declarations) query.declarations []) query) (IsCoreTyped s core) (IsQueryTypedSoundly s core)
    (core_holds s is core) (λ query h. by_place query h (first_unsettled (function_uses core.declarations) query.declarations []) refl)
  where
    by_place : (query : TypedCore) → IsCoreTyped s core query → (o : Option Place) → first_unsettled (function_uses core.declarations) query.declarations [] ≡ o
        → IfTyped (IsQueryTypedSoundly s core) (unless_unsettled o query)
    by_place query h (Some place) e = tt
    by_place query h None e = record {
      same = h.same;
      sound = subst (λ (c : Core). first_unsettled (function_uses c.declarations) query.declarations [] ≡ None → HasQueryVariablesInOrder c → CallsDeclaredFunctions c → IsSoundQuery s query) h.same
          (settled_sound s query h.declarations h.body) e;
    }

whole_typed : (j : Judged TypedCore) (query : TypedCore) → whole_judgement j ≡ query_typed query → j ≡ typed query
whole_typed (typed q) query h = let same : q ≡ query = cc in ap (λ (x : TypedCore). typed x) same
whole_typed (rejected place code) query h = cc

pub whole_rejected : (j : Judged TypedCore) (place : Place) (code : Code) → whole_judgement j ≡ query_rejected place code → j ≡ rejected place code
whole_rejected (typed q) place code h = cc
whole_rejected (rejected own other) place code h = cc

pub query_sound : QueryTypingIsSound
query_sound s core query is j = subst (IfTyped (IsQueryTypedSoundly s core)) (whole_typed (core_judged s core) query j) (query_holds s is core)

pub sound_if_typed : (s : SchemaSet) (core : Core) → IsSchemaSet s → (r : Result TypedCore InferError) → IfOk r (λ t. query_judged s core ≡ query_typed t)
    → HasQueryVariablesInOrder core → CallsDeclaredFunctions core → IfOk r (λ t. IsSoundQuery s t)
sound_if_typed s core i (Ok t) h order calls = (query_sound s core t i h).sound order calls
sound_if_typed s core i (Err e) h order calls = tt

pub same_if_typed : (s : SchemaSet) (core : Core) → IsSchemaSet s → (r : Result TypedCore InferError) → IfOk r (λ t. query_judged s core ≡ query_typed t)
    → IfOk r (λ t. plain_query t ≡ core)
same_if_typed s core i (Ok t) h = (query_sound s core t i h).same
same_if_typed s core i (Err e) h = tt

-- ---- what is rejected fails

declared_fails : (s : SchemaSet) (name : Name) (binder : Binder) (value : CoreExpression) (types : Types) (t : TypedExpression) → judged s value types ≡ typed t
    → IfRejected (DeclarationFails s (Global name binder (Some value)) types) (declared_as s name binder t)
declared_fails s name binder value types t e = of_test (is_as_written s binder.kind (annotation_of t)) refl
  where
    of_test : (b : Bool) → is_as_written s binder.kind (annotation_of t) ≡ b
        → IfRejected (DeclarationFails s (Global name binder (Some value)) types) (if b then typed (Global name binder (Some t)) else rejected binder.place XPTY0004)
    of_test true h = tt
    of_test false h = inr (record { typing = t; judged_value = e; refused = h; there = refl; is = refl })

declaration_fails : (s : SchemaSet) (d : CoreDeclaration) (types : Types) → IfRejected (DeclarationFails s d types) (declaration_judged s d types)
declaration_fails s (Global name binder (Some value)) types =
    made_fails (judged s value types) (declared_as s name binder) (FailsFirst s value types) (DeclarationFails s (Global name binder (Some value)) types) (judged_fails s value types)
    (λ place code h. inl h) (λ t e. declared_fails s name binder value types t e)
declaration_fails s (Global name binder None) types = tt
declaration_fails s (Function function) types =
    made_fails (judged s function.body (types_inside function types)) (function_with s function.place function.name function.parameters function.result) (FailsFirst s function.body (types_inside function types)) (DeclarationFails s (Function function) types)
    (judged_fails s function.body (types_inside function types)) (λ place code h. inl h) (λ t e. by_ruling t e (result_rule s function.result (annotation_of t)) refl)
  where
    by_ruling : (t : TypedExpression) → judged s function.body (types_inside function types) ≡ typed t → (r : Ruling) → result_rule s function.result (annotation_of t) ≡ r
        → IfRejected (DeclarationFails s (Function function) types)
        (declared_where (outer_of t) (Function (with_body function t)) r)
    by_ruling t e (has_type u) f = tt
    by_ruling t e (has_none code part) f = inr (record { typing = t; part = part; judged_body = e; refused = f; there = refl })

declarations_fail : (s : SchemaSet) (ds : List CoreDeclaration) (types : Types) → IfRejected (DeclarationsFailFirst s ds types) (declarations_judged s ds types)
declarations_fail s [] types = tt
declarations_fail s (d ∷ ds) types =
    made_fails (declaration_judged s d types) (λ t. with_typed (declarations_judged s ds (global_types t ++ types)) (λ ts. typed (t ∷ ts)))
    (DeclarationFails s d types) (DeclarationsFailFirst s (d ∷ ds) types) (declaration_fails s d types) (λ place code h. inl h)
    (λ t e. made_fails (declarations_judged s ds (global_types t ++ types)) (λ ts. typed (t ∷ ts)) (DeclarationsFailFirst s ds (global_types t ++ types)) (DeclarationsFailFirst s (d ∷ ds) types)
    (declarations_fail s ds (global_types t ++ types)) (λ place code h. inr (t, e, h)) (λ ts f. tt))

abbrev TypingFails : SchemaSet → Core → Place → Code → Type 0
TypingFails s core place code =
    DeclarationsFailFirst s core.declarations [] place code
    ⊎ ((ds : List TypedDeclaration) × (declarations_judged s core.declarations [] ≡ typed ds) × FailsFirst s core.body (types_declared ds []) place code)

typing_fails : (s : SchemaSet) (core : Core) → IfRejected (TypingFails s core) (core_typed s core)
typing_fails s core =
    made_fails (declarations_judged s core.declarations []) (λ ds. with_typed (judged s core.body (types_declared ds [])) (λ t. typed (record { declarations = ds; body = t })))
    (DeclarationsFailFirst s core.declarations []) (TypingFails s core) (declarations_fail s core.declarations []) (λ place code h. inl h)
    (λ ds e. made_fails (judged s core.body (types_declared ds [])) (λ t. typed (record { declarations = ds; body = t })) (FailsFirst s core.body (types_declared ds [])) (TypingFails s core)
    (judged_fails s core.body (types_declared ds [])) (λ place code h. inr (ds, e, h)) (λ t f. tt))

core_fails : (s : SchemaSet) (core : Core) → IfRejected (QueryFailsFirst s core) (core_judged s core)
core_fails s core =
    made_fails (core_typed s core) (λ query. unless_unsettled (first_unsettled (function_uses core.declarations) query.declarations []) query) (TypingFails s core) (QueryFailsFirst s core)
    (typing_fails s core) (λ place code h. inl h) (λ query e. by_place query e (first_unsettled (function_uses core.declarations) query.declarations []) refl)
  where
    by_place : (query : TypedCore) → core_typed s core ≡ typed query → (o : Option Place) → first_unsettled (function_uses core.declarations) query.declarations [] ≡ o
        → IfRejected (QueryFailsFirst s core) (unless_unsettled o query)
    by_place query e None f = tt
    by_place query e (Some place) f = inr (record { query = query; judged_query = e; there = f; is = refl })

pub query_rejection_names_failure : QueryRejectionNamesFailure
query_rejection_names_failure s core place code j = subst (IfRejected (QueryFailsFirst s core)) (whole_rejected (core_judged s core) place code j) (core_fails s core)

-- ---- variables have types

declared_bound : (s : SchemaSet) (name : Name) (binder : Binder) (t : TypedExpression) → IfRejected Bound (declared_as s name binder t)
declared_bound s name binder t =
    elim (is_as_written s binder.kind (annotation_of t)) as (λ (b : Bool). IfRejected Bound (if b then typed (Global name binder (Some t)) else rejected binder.place XPTY0004)) [
      | true ↦ tt
      | false ↦ λ e. cc
    ]

-- a global that is typed brings its number into scope, and a function brings none
abbrev BringsNumber : CoreDeclaration → TypedDeclaration → Type 0
BringsNumber (Global name binder value) t = in_scope (global_types t) ≡ binder.variable ∷ []
BringsNumber (Function function) t = in_scope (global_types t) ≡ []

external_number : (name : Name) (binder : Binder) (kind : Option SequenceType) → binder.kind ≡ kind → HasValueOrType (Global name binder None) → in_scope (global_types (Global name binder None)) ≡ binder.variable ∷ []
external_number name binder None e h = absurd (cc)
external_number name binder (Some t) e h = rw e refl

declared_number : (s : SchemaSet) (name : Name) (binder : Binder) (value : CoreExpression) (t : TypedExpression) → IfTyped (BringsNumber (Global name binder (Some value))) (declared_as s name binder t)
declared_number s name binder value t =
    elim (is_as_written s binder.kind (annotation_of t)) as (λ (b : Bool). IfTyped (BringsNumber (Global name binder (Some value))) (if b then typed (Global name binder (Some t)) else rejected binder.place XPTY0004)) [
      | true ↦ refl
      | false ↦ tt
    ]

declaration_number : (s : SchemaSet) (d : CoreDeclaration) (types : Types) → HasValueOrType d → IfTyped (BringsNumber d) (declaration_judged s d types)
declaration_number s (Global name binder (Some value)) types h =
    made_holds (judged s value types) (declared_as s name binder) (λ t. Unit {0}) (BringsNumber (Global name binder (Some value))) (always (judged s value types)) (λ t k. declared_number s name binder value t)
  where
    always : (j : Judged TypedExpression) → IfTyped (λ t. Unit {0}) j
    always (typed t) = tt
    always (rejected place code) = tt
declaration_number s (Global name binder None) types h = external_number name binder binder.kind refl h
declaration_number s (Function function) types h =
    made_holds (judged s function.body (types_inside function types)) (function_with s function.place function.name function.parameters function.result) (λ t. Unit {0}) (BringsNumber (Function function)) (always (judged s function.body (types_inside function types)))
    (λ t k. by_ruling t (result_rule s function.result (annotation_of t)))
  where
    always : (j : Judged TypedExpression) → IfTyped (λ t. Unit {0}) j
    always (typed t) = tt
    always (rejected place code) = tt

    by_ruling : (t : TypedExpression) (r : Ruling) → IfTyped (BringsNumber (Function function))
        (declared_where (outer_of t) (Function (with_body function t)) r)
    by_ruling t (has_type u) = refl
    by_ruling t (has_none code part) = tt

parameters_in_scope : (parameters : List Binder) (types : Types) → in_scope (parameter_types parameters ++ types) ≡ parameter_numbers parameters ++ in_scope types
parameters_in_scope [] types = refl
parameters_in_scope (parameter ∷ parameters) types = ap (λ (ns : List ℕ). parameter.variable ∷ ns) (parameters_in_scope parameters types)

included_code : (s : SchemaSet) (expected : SequenceType) (r : Ruling) (code : Code) (part : Option ℕ) → ((c : Code) (there : Option ℕ) → r ≡ has_none c there → c ≢ XPST0008)
    → included_ruling s expected r ≡ has_none code part → code ≢ XPST0008
included_code s expected (has_none own there) code part h e = h code part e
included_code s expected (has_type t) code part h e =
    elim (is_included s t expected) as (λ (b : Bool). type_if b t ≡ has_none code part → code ≢ XPST0008) [
      | true ↦ λ f. absurd (cc)
      | false ↦ λ f. let same : XPTY0004 ≡ code = cc in subst (λ (c : Code). c ≢ XPST0008) same (λ x. cc)
    ] e

result_code : (s : SchemaSet) (expected t : SequenceType) (code : Code) (part : Option ℕ) → result_rule s expected t ≡ has_none code part → code ≢ XPST0008
result_code s expected t code part e = included_code s expected (converted_type s expected t) code part (converted_code s expected t) e

declaration_bound : (s : SchemaSet) (d : CoreDeclaration) (ds : List CoreDeclaration) (types : Types) → AreValuesScoped (in_scope types) (d ∷ ds) → IfRejected Bound (declaration_judged s d types)
declaration_bound s (Global name binder (Some value)) ds types h =
    made_fails (judged s value types) (declared_as s name binder) Bound Bound (judged_bound s value types h.0) (λ place code k. k) (λ t e. declared_bound s name binder t)
declaration_bound s (Global name binder None) ds types h = tt
declaration_bound s (Function function) ds types h =
    made_fails (judged s function.body (types_inside function types)) (function_with s function.place function.name function.parameters function.result) Bound Bound
    (judged_bound s function.body (types_inside function types) (subst (λ (scope : List ℕ). IsScoped scope function.body) (sym (parameters_in_scope function.parameters types)) h.0)) (λ place code k. k)
    (λ t e. by_ruling t (result_rule s function.result (annotation_of t)) refl)
  where
    by_ruling : (t : TypedExpression) (r : Ruling) → result_rule s function.result (annotation_of t) ≡ r → IfRejected Bound
        (declared_where (outer_of t) (Function (with_body function t)) r)
    by_ruling t (has_type u) e = tt
    by_ruling t (has_none code part) e = result_code s function.result (annotation_of t) code part e

scope_grows : (d : CoreDeclaration) (t : TypedDeclaration) (types : Types) (ds : List CoreDeclaration) → BringsNumber d t → AreValuesScoped (in_scope types) (d ∷ ds) → AreValuesScoped (in_scope (global_types t ++ types)) ds
scope_grows (Global name binder value) t types ds e h =
    subst (λ (scope : List ℕ). AreValuesScoped scope ds) (sym (in_scope_joined (global_types t) types ∙ ap (λ (ns : List ℕ). ns ++ in_scope types) e)) h.1
scope_grows (Function function) t types ds e h =
    subst (λ (scope : List ℕ). AreValuesScoped scope ds) (sym (in_scope_joined (global_types t) types ∙ ap (λ (ns : List ℕ). ns ++ in_scope types) e)) h.1

scope_reached : (d : CoreDeclaration) (t : TypedDeclaration) (types : Types) (ds : List CoreDeclaration) → BringsNumber d t → scope_behind ds (in_scope (global_types t ++ types)) ≡ scope_behind (d ∷ ds) (in_scope types)
scope_reached (Global name binder value) t types ds e = ap (λ (scope : List ℕ). scope_behind ds scope) (in_scope_joined (global_types t) types ∙ ap (λ (ns : List ℕ). ns ++ in_scope types) e)
scope_reached (Function function) t types ds e = ap (λ (scope : List ℕ). scope_behind ds scope) (in_scope_joined (global_types t) types ∙ ap (λ (ns : List ℕ). ns ++ in_scope types) e)

declarations_bound : (s : SchemaSet) (ds : List CoreDeclaration) (types : Types) → AreValuesScoped (in_scope types) ds → All HasValueOrType ds → IfRejected Bound (declarations_judged s ds types)
declarations_bound s [] types h all = tt
declarations_bound s (d ∷ ds) types h all =
    made_fails (declaration_judged s d types) (λ t. with_typed (declarations_judged s ds (global_types t ++ types)) (λ ts. typed (t ∷ ts))) Bound Bound (declaration_bound s d ds types h) (λ place code k. k)
    (λ t e. made_fails (declarations_judged s ds (global_types t ++ types)) (λ ts. typed (t ∷ ts)) Bound Bound
    (declarations_bound s ds (global_types t ++ types) (scope_grows d t types ds (number t e) h) (All-tail HasValueOrType d ds all)) (λ place code k. k) (λ ts f. tt))
  where
    number : (t : TypedDeclaration) → declaration_judged s d types ≡ typed t → BringsNumber d t
    number t e = subst (IfTyped (BringsNumber d)) e (declaration_number s d types (first_of all))
      where
        first_of : All HasValueOrType (d ∷ ds) → HasValueOrType d
        first_of all = all 0 d (search rules)

-- the numbers in scope behind typed declarations
abbrev BringScope : List CoreDeclaration → Types → List TypedDeclaration → Type 0
BringScope ds types ts = in_scope (types_declared ts types) ≡ scope_behind ds (in_scope types)

declarations_scope : (s : SchemaSet) (ds : List CoreDeclaration) (types : Types) → All HasValueOrType ds → IfTyped (BringScope ds types) (declarations_judged s ds types)
declarations_scope s [] types all = refl
declarations_scope s (d ∷ ds) types all =
    made_holds (declaration_judged s d types) (λ t. with_typed (declarations_judged s ds (global_types t ++ types)) (λ ts. typed (t ∷ ts))) (BringsNumber d) (BringScope (d ∷ ds) types)
    (declaration_number s d types (all 0 d (search rules)))
    (λ t h. made_holds (declarations_judged s ds (global_types t ++ types)) (λ ts. typed (t ∷ ts)) (BringScope ds (global_types t ++ types)) (BringScope (d ∷ ds) types)
    (declarations_scope s ds (global_types t ++ types) (All-tail HasValueOrType d ds all)) (λ ts k. k ∙ scope_reached d t types ds h))

typing_bound : (s : SchemaSet) (core : Core) → HasQueryVariablesInOrder core → IfRejected Bound (core_typed s core)
typing_bound s core h =
    made_fails (declarations_judged s core.declarations []) (λ ds. with_typed (judged s core.body (types_declared ds [])) (λ t. typed (record { declarations = ds; body = t })))
    Bound Bound (declarations_bound s core.declarations [] h.values h.externals) (λ place code k. k)
    (λ ds e. made_fails (judged s core.body (types_declared ds [])) (λ t. typed (record { declarations = ds; body = t })) Bound Bound
    (judged_bound s core.body (types_declared ds []) (subst (λ (scope : List ℕ). IsScoped scope core.body) (sym (subst (IfTyped (BringScope core.declarations [])) e (declarations_scope s core.declarations [] h.externals))) h.body))
    (λ place code k. k) (λ t f. tt))

core_bound : (s : SchemaSet) (core : Core) → HasQueryVariablesInOrder core → IfRejected Bound (core_judged s core)
core_bound s core h =
    made_fails (core_typed s core) (λ query. unless_unsettled (first_unsettled (function_uses core.declarations) query.declarations []) query) Bound Bound (typing_bound s core h) (λ place code k. k)
    (λ query e. by_place query (first_unsettled (function_uses core.declarations) query.declarations []))
  where
    by_place : (query : TypedCore) (o : Option Place) → IfRejected Bound (unless_unsettled o query)
    by_place query None = tt
    by_place query (Some place) = λ e. cc

pub query_variables_have_types : QueryVariablesHaveTypes
query_variables_have_types s core place code h j = subst (IfRejected Bound) (whole_rejected (core_judged s core) place code j) (core_bound s core h)
