-- What a query that is sound comes to.
use Rattle.std.proofs.Common.{◌≡◌, ◌⊎◌, inl, inr, ℕ, zero, suc, Bool, true, false, List, [], ◌∷◌, ◌++◌, map, Option, None, Some, refl, sym, ◌∙◌, ap, subst, nat_eq, if◌then◌else◌}
use Rattle.std.specs.Prelude.{Contains, option_map}
use Rattle.std.specs.List.{slice_get}
use Rattle.gx_types.specs.SchemaSet.{SchemaSet}
use Rattle.gx_types.specs.SequenceType.{SequenceType}
use Rattle.gx_model.specs.Forest.{PlainNode, Forest}
use Rattle.gx_model.specs.Honest.{IsHonest}
use Rattle.gx_model.specs.Item.{node, Items}
use Rattle.gx_model.specs.Belongs.{Belongs}
use Rattle.gx_model.specs.Growth.{Extends}
use Rattle.gx_model.proofs.PublicLaws.{values_stay}
use Rattle.gx_core.specs.declared.expression.Binder.{Binder}
use Rattle.gx_core.specs.declared.signature.FunctionSignature.{FunctionSignature}
use Rattle.gx_core.specs.Queries.{CoreDeclaration, TypedDeclaration, TypedFunction}
use Rattle.gx_core.specs.declared.expression.Declaration.TheVariants.{Global, Function}
use Rattle.gx_core.specs.Expression.{At, annotation_of}
use Rattle.gx_core.specs.Bindings.{Types, look_up}
use Rattle.gx_core.specs.CalledFunctions.{type_of_parameter}
use Rattle.gx_core.specs.Converting.{converted}
use Rattle.gx_core.specs.Functions.{functions_of, arguments_bound, calls_over, context_over}
use Rattle.gx_core.specs.Outcome.{Outcome, after, given}
use Rattle.gx_core.specs.Meaning.{Bindings, meaning}
use Rattle.gx_core.specs.Soundness.{TypedExpression, Setting, typed_setting, calling_setting, KeepsFact}
use Rattle.gx_core.specs.Soundness.{IsOfType, AreOfTypes, Keeps, IsBoundTo, Fits, CallsKeepTypes, Situation, KeepsItsType, IsSound}
use Rattle.gx_core.specs.QueryMeaning.{plain_declaration, globals_bound, external_types, global_types, types_declared}
use Rattle.gx_core.specs.QueryMeaning.{parameter_types, functions_declared, IsSoundFunction, IsCallable, CallsCallable, DeclarationsAreSound}
use Rattle.gx_core.specs.QueryMeaning.{IsDeclaredSo, DocumentsFit, NoneNeedsNoDocument, SoundQueriesKeepTheirTypes}
use Rattle.gx_core.proofs.KeptFacts.{fact_after, fact_at_once, bindings_fit_still, binding_fits, calls_keep_still}
use Rattle.gx_core.proofs.CallLemmas.{calls_end, calls_go_on, function_called, slice_map, query_meaning_looks_at_no_type}

pub keeps_its_type : (setting : Setting) (e : TypedExpression) (types : Types) → IsSound setting e types → KeepsItsType setting e types
keeps_its_type setting (At place outer t operator parts) types h = h.0

-- ---- calls

-- something bound to a parameter, with a value of its type; or not, and then it is what it is without the parameters
abbrev IsParameterOr : SchemaSet → Forest → (bound : Option Items) → (own : Option SequenceType) → (before : Types) → (outer : Option Items) → (number : ℕ) → SequenceType → Type 0
IsParameterOr schemas forest bound own before outer number t =
    ((value : Items) × (bound ≡ Some value) × Belongs schemas forest value t) ⊎ ((own ≡ None) × (look_up before number ≡ Some t) × (bound ≡ outer))

parameters_fit : (schemas : SchemaSet) (forest : Forest) (parameters : List Binder) (values : List Items) (before : Types) (globals : Bindings) (number : ℕ) (t : SequenceType)
    → AreOfTypes schemas (map type_of_parameter parameters) forest values → look_up (parameter_types parameters ++ before) number ≡ Some t
    → IsParameterOr schemas forest (look_up (arguments_bound parameters values ++ globals) number) (look_up (parameter_types parameters) number) before (look_up globals number) number t
parameters_fit schemas forest [] [] before globals number t belong found = inr (refl, found, refl)
parameters_fit schemas forest [] (xs ∷ values) before globals number t belong found = absurd belong
parameters_fit schemas forest (p ∷ parameters) [] before globals number t belong found = absurd belong
parameters_fit schemas forest (p ∷ parameters) (xs ∷ values) before globals number t belong found =
    elim (nat_eq p.variable number) as (λ (same : Bool). (if same then Some (type_of_parameter p) else look_up (parameter_types parameters ++ before) number) ≡ Some t
    → IsParameterOr schemas forest (if same then Some xs else look_up (arguments_bound parameters values ++ globals) number)
    (if same then Some (type_of_parameter p) else look_up (parameter_types parameters) number) before (look_up globals number) number t) [
      | true ↦ λ h. let e : type_of_parameter p ≡ t = cc in inl (xs, refl, subst (λ (u : SequenceType). Belongs schemas forest xs u) e belong.0)
      | false ↦ λ h. parameters_fit schemas forest parameters values before globals number t belong.1 h
    ] found

abbrev function_in : TypedFunction × Types → TypedFunction
function_in f = f.0

-- all functions are sound where they are declared
abbrev FunctionsAreSound : SchemaSet → List (TypedFunction × Types) → Type 0
FunctionsAreSound schemas functions =
    (number : ℕ) (f : TypedFunction) (before : Types) → slice_get functions number ≡ Some (f, before) → IsSoundFunction schemas f before

-- calls of functions that may be called keep their types, however many may be active
calls_keep : (schemas : SchemaSet) (functions : List (TypedFunction × Types)) (types : Types) (known : List FunctionSignature) (globals : Bindings) (base : Forest) (left : ℕ)
    → ((signature : FunctionSignature) → Contains known signature → IsCallable functions types known signature) → FunctionsAreSound schemas functions → Fits schemas base types globals
    → CallsKeepTypes (calling_setting schemas known (calls_over schemas (map function_in functions) globals left)) base
calls_keep schemas functions types known globals base zero callable sound fits now signature values k e honest belong =
    subst (λ (o : Outcome Items). Keeps (typed_setting schemas) now signature.result o) (sym (calls_end schemas (map function_in functions) globals signature values now)) tt
calls_keep schemas functions types known globals base (suc left) callable sound fits now signature values k e honest belong =
    let c : IsCallable functions types known signature = callable signature k in
    let f : TypedFunction = c.function in
    let s : IsSoundFunction schemas f c.before = sound signature.number f c.before c.declared in
    let inner : Setting = calling_setting schemas known (calls_over schemas (map function_in functions) globals left) in
    let given_types : AreOfTypes schemas (map type_of_parameter f.parameters) now values =
    subst (λ (ts : List SequenceType). AreOfTypes schemas ts now values) (ap (λ (g : FunctionSignature). g.parameters) c.is) belong in
    let found : slice_get (map function_in functions) signature.number ≡ Some f = slice_map function_in functions signature.number ∙ ap (λ (o : Option (TypedFunction × Types)). option_map function_in o) c.declared in
    subst (λ (o : Outcome Items). Keeps (typed_setting schemas) now signature.result o)
    (sym (calls_go_on schemas (map function_in functions) globals left signature values now
    ∙ ap (λ (o : Option TypedFunction). given o (function_called schemas (map function_in functions) globals left values now)) found))
    (subst (λ (t : SequenceType). Keeps (typed_setting schemas) now t (function_called schemas (map function_in functions) globals left values now f)) (sym (ap (λ (g : FunctionSignature). g.result) c.is))
    (fact_after (typed_setting schemas) now (IsOfType schemas (annotation_of f.body)) (IsOfType schemas f.result)
    (meaning (context_over schemas (map function_in functions) globals left) f.body (arguments_bound f.parameters values ++ globals) now) (λ xs last. converted schemas f.result xs last)
    (s.keeps known (calls_over schemas (map function_in functions) globals left) (arguments_bound f.parameters values ++ globals) now c.calls honest
    (calls_keep_still inner base now e (calls_keep schemas functions types known globals base left callable sound fits))
    (λ number t free there. elim (parameters_fit schemas now f.parameters values c.before globals number t given_types there) [
      | inl h ↦ record { value = h.0; bound = h.1; belongs = h.2 }
      | inr h ↦ let b : IsBoundTo schemas now globals number t = bindings_fit_still (typed_setting schemas) types globals base now e fits number t (c.named number t free h.0 h.1) in
          record { value = b.value; bound = h.2 ∙ b.bound; belongs = b.belongs }
    ]))
    (λ xs last g still b. s.converts last xs still b)))

-- documents that are of their types are so still where the forest has grown
declared_so_still : (schemas : SchemaSet) (before now : Forest) (kind : Option SequenceType) (document : PlainNode) → Extends before now
    → IsDeclaredSo schemas before kind document → IsDeclaredSo schemas now kind document
declared_so_still schemas before now None document e h = absurd h
declared_so_still schemas before now (Some t) document e h = values_stay schemas before now (node document ∷ []) t e h

documents_fit_still : (schemas : SchemaSet) (before now : Forest) (ds : List CoreDeclaration) (documents : List PlainNode)
    → Extends before now → DocumentsFit schemas before ds documents → DocumentsFit schemas now ds documents
documents_fit_still schemas before now [] documents e h = tt
documents_fit_still schemas before now (Function f ∷ ds) documents e h = documents_fit_still schemas before now ds documents e h
documents_fit_still schemas before now (Global name binder (Some value) ∷ ds) documents e h =
    documents_fit_still schemas before now ds documents e h
documents_fit_still schemas before now (Global name binder None ∷ ds) [] e h = absurd h
documents_fit_still schemas before now (Global name binder None ∷ ds) (document ∷ documents) e h =
    (declared_so_still schemas before now binder.kind document e h.0, documents_fit_still schemas before now ds documents e h.1)

-- and the variable of a document
external_fits : (schemas : SchemaSet) (forest : Forest) (binder : Binder) (kind : Option SequenceType) (document : PlainNode)
    (types : Types) (bindings : Bindings)
    → IsDeclaredSo schemas forest kind document → Fits schemas forest types bindings
    → Fits schemas forest (external_types binder kind ++ types) ((binder.variable, node document ∷ []) ∷ bindings)
external_fits schemas forest binder None document types bindings h fits = absurd h
external_fits schemas forest binder (Some t) document types bindings h fits =
    binding_fits (typed_setting schemas) binder t (node document ∷ []) types bindings forest fits h

-- the globals of a sound query are bound to values of their types
globals_keep : (schemas : SchemaSet) (functions : List (TypedFunction × Types)) (limit : ℕ) (ds : List TypedDeclaration) (documents : List PlainNode) (types : Types) (bindings : Bindings) (forest : Forest)
    → FunctionsAreSound schemas functions → IsHonest schemas forest → Fits schemas forest types bindings → DeclarationsAreSound schemas functions ds types
    → DocumentsFit schemas forest (map plain_declaration ds) documents
    → KeepsFact (typed_setting schemas) forest (λ now found. Fits schemas now (types_declared ds types) found) (globals_bound schemas (map function_in functions) limit ds documents bindings forest)
globals_keep schemas functions limit [] documents types bindings forest all honest fits sound fit =
    fact_at_once (typed_setting schemas) forest (λ now found. Fits schemas now types found) bindings honest fits
globals_keep schemas functions limit (Function f ∷ ds) documents types bindings forest all honest fits sound fit =
    globals_keep schemas functions limit ds documents types bindings forest all honest fits sound.1 fit
globals_keep schemas functions limit (Global name binder (Some value) ∷ ds) documents types bindings forest all honest fits sound fit =
    let c : CallsCallable functions types value = sound.0.1 in
    let setting : Setting = calling_setting schemas c.known (calls_over schemas (map function_in functions) bindings limit) in
    let situation : Situation setting types = record {
      bindings = bindings;
      forest = forest;
      honest = honest;
      fits = fits;
      calls_keep = calls_keep schemas functions types c.known bindings forest limit c.callable all fits;
    } in
    fact_after (typed_setting schemas) forest (IsOfType schemas (annotation_of value))
    (λ now found. Fits schemas now (types_declared ds ((binder.variable, annotation_of value) ∷ types)) found)
    (meaning (context_over schemas (map function_in functions) bindings limit) value bindings forest)
    (λ items left. globals_bound schemas (map function_in functions) limit ds documents ((binder.variable, items) ∷ bindings) left)
    (keeps_its_type setting value types (sound.0.0 c.known (calls_over schemas (map function_in functions) bindings limit) c.calls) situation)
    (λ items now e still belongs.
    globals_keep schemas functions limit ds documents ((binder.variable, annotation_of value) ∷ types) ((binder.variable, items) ∷ bindings) now all still
    (binding_fits (typed_setting schemas) binder (annotation_of value) items types bindings now (bindings_fit_still (typed_setting schemas) types bindings forest now e fits) belongs) sound.1
    (documents_fit_still schemas forest now (map plain_declaration ds) documents e fit))
globals_keep schemas functions limit (Global name binder None ∷ ds) [] types bindings forest all honest fits sound fit = absurd fit
globals_keep schemas functions limit (Global name binder None ∷ ds) (document ∷ documents) types bindings forest all honest fits sound fit =
    globals_keep schemas functions limit ds documents (external_types binder binder.kind ++ types) ((binder.variable, node document ∷ []) ∷ bindings) forest all honest
    (external_fits schemas forest binder binder.kind document types bindings fit.0 fits) sound.1 fit.1

-- ---- functions by their numbers

declared_functions : (ds : List TypedDeclaration) (types : Types) → map function_in (functions_declared ds types) ≡ functions_of ds
declared_functions [] types = refl
declared_functions (Function f ∷ ds) types = ap (λ (fs : List TypedFunction). f ∷ fs) (declared_functions ds types)
declared_functions (Global name binder value ∷ ds) types = declared_functions ds (global_types (Global name binder value) ++ types)

abbrev IsSoundIf : SchemaSet → Option (TypedFunction × Types) → Type 0
IsSoundIf schemas None = Unit {0}
IsSoundIf schemas (Some f) = IsSoundFunction schemas f.0 f.1

functions_sound : (schemas : SchemaSet) (all : List (TypedFunction × Types)) (ds : List TypedDeclaration) (types : Types) → DeclarationsAreSound schemas all ds types
    → FunctionsAreSound schemas (functions_declared ds types)
functions_sound schemas all [] types sound number f before found = absurd (cc)
functions_sound schemas all (Function g ∷ ds) types sound zero f before found = subst (IsSoundIf schemas) found sound.0
functions_sound schemas all (Function g ∷ ds) types sound (suc number) f before found = functions_sound schemas all ds types sound.1 number f before found
functions_sound schemas all (Global name binder value ∷ ds) types sound number f before found =
    functions_sound schemas all ds (global_types (Global name binder value) ++ types) sound.1 number f before found

pub none_needs_no_document : NoneNeedsNoDocument
none_needs_no_document schemas forest [] none = tt
none_needs_no_document schemas forest (Function f ∷ ds) none = none_needs_no_document schemas forest ds none
none_needs_no_document schemas forest (Global name binder (Some value) ∷ ds) none = none_needs_no_document schemas forest ds none
none_needs_no_document schemas forest (Global name binder None ∷ ds) none = absurd none

-- the typed query keeps its type, and so does the query without types
pub sound_queries_keep : SoundQueriesKeepTheirTypes
sound_queries_keep limit schemas query documents forest honest fit h =
    let functions : List (TypedFunction × Types) = functions_declared query.declarations [] in
    let types : Types = types_declared query.declarations [] in
    let all : FunctionsAreSound schemas functions = functions_sound schemas functions query.declarations [] h.declarations in
    let fs : List TypedFunction = map function_in functions in
    let c : CallsCallable functions types query.body = h.calls in
    let typed_keeps : Keeps (typed_setting schemas) forest (annotation_of query.body)
    (after (globals_bound schemas fs limit query.declarations documents [] forest) (λ bindings left. meaning (context_over schemas fs bindings limit) query.body bindings left)) =
    fact_after (typed_setting schemas) forest (λ now bindings. Fits schemas now types bindings) (IsOfType schemas (annotation_of query.body))
    (globals_bound schemas fs limit query.declarations documents [] forest) (λ bindings left. meaning (context_over schemas fs bindings limit) query.body bindings left)
    (globals_keep schemas functions limit query.declarations documents [] [] forest all honest (λ number t found. absurd (cc)) h.declarations fit)
    (λ bindings now e still fits.
    keeps_its_type (calling_setting schemas c.known (calls_over schemas fs bindings limit)) query.body types (h.body c.known (calls_over schemas fs bindings limit) c.calls)
    (record { bindings = bindings; forest = now; honest = still; fits = fits; calls_keep = calls_keep schemas functions types c.known bindings now limit c.callable all fits })) in
    subst (λ (o : Outcome Items). Keeps (typed_setting schemas) forest (annotation_of query.body) o) (sym (query_meaning_looks_at_no_type limit schemas query documents forest))
    (subst (λ (gs : List TypedFunction). Keeps (typed_setting schemas) forest (annotation_of query.body)
    (after (globals_bound schemas gs limit query.declarations documents [] forest) (λ bindings left. meaning (context_over schemas gs bindings limit) query.body bindings left)))
    (declared_functions query.declarations []) typed_keeps)
