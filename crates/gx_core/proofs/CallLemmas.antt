-- Calls of declared functions, unfolded once, and where a query has its types.
use Rattle.std.proofs.Common.{◌≡◌, ℕ, zero, suc, List, [], ◌∷◌, ◌++◌, map, Option, None, Some, refl, ◌∙◌, ap, sym}
use Rattle.std.specs.Prelude.{option_map}
use Rattle.std.specs.List.{slice_get}
use Rattle.gx_base.specs.declared.code.Code.TheVariants.{GLXD0001}
use Rattle.gx_types.specs.SchemaSet.{SchemaSet}
use Rattle.gx_types.specs.SequenceType.{SequenceType}
use Rattle.gx_model.specs.Forest.{PlainNode, Forest}
use Rattle.gx_model.specs.Item.{node, Items}
use Rattle.gx_core.specs.declared.expression.Declaration.TheVariants.{Global, Function}
use Rattle.gx_core.specs.declared.expression.DeclaredFunction.{DeclaredFunction}
use Rattle.gx_core.specs.declared.signature.FunctionSignature.{FunctionSignature}
use Rattle.gx_core.specs.Queries.{CoreFunction, TypedFunction, TypedDeclaration}
use Rattle.gx_core.specs.Expression.{plain}
use Rattle.gx_core.specs.Outcome.{Outcome, raises, after, given}
use Rattle.gx_core.specs.Converting.{converted}
use Rattle.gx_core.specs.Meaning.{CallOutcomes, Context, Bindings, Denotation, meaning}
use Rattle.gx_core.specs.Functions.{functions_of, arguments_bound, calls_over, context_over}
use Rattle.gx_core.specs.QueryMeaning.{plain_function, plain_declaration, globals_bound, QueryMeaningLooksAtNoType}
use Rattle.gx_core.proofs.PlainMeaning.{plain_means_the_same}

-- ---- a call, unfolded

pub calls_end : {A : Type 0} (schemas : SchemaSet) (functions : List (DeclaredFunction A)) (globals : Bindings) (signature : FunctionSignature)
    (values : List Items) (forest : Forest)
    → calls_over schemas functions globals zero signature values forest ≡ raises GLXD0001
unfolding calls_over
calls_end schemas functions globals signature values forest = refl

-- what a function comes to, where so many more calls may be active in its body
abbrev pub function_called : {A : Type 0} → SchemaSet → List (DeclaredFunction A) → (globals : Bindings) → (left : ℕ) → List Items → Forest
    → DeclaredFunction A → Outcome Items
function_called schemas functions globals left values forest f =
    after (meaning (context_over schemas functions globals left) f.body (arguments_bound f.parameters values ++ globals) forest)
    (λ xs now. converted schemas f.result xs now)

pub calls_go_on : {A : Type 0} (schemas : SchemaSet) (functions : List (DeclaredFunction A)) (globals : Bindings) (left : ℕ)
    (signature : FunctionSignature) (values : List Items) (forest : Forest)
    → calls_over schemas functions globals (suc left) signature values forest
    ≡ given (slice_get functions signature.number) (function_called schemas functions globals left values forest)
unfolding calls_over
calls_go_on schemas functions globals left signature values forest = refl

-- ---- without types

pub slice_map : {A B : Type 0} (f : A → B) (xs : List A) (n : ℕ) → slice_get (map f xs) n ≡ option_map f (slice_get xs n)
slice_map f [] n = refl
slice_map f (x ∷ xs) zero = refl
slice_map f (x ∷ xs) (suc n) = slice_map f xs n

pub functions_without_types : (ds : List TypedDeclaration) → functions_of (map plain_declaration ds) ≡ map plain_function (functions_of ds)
functions_without_types [] = refl
functions_without_types (Function f ∷ ds) = ap (λ (fs : List CoreFunction). plain_function f ∷ fs) (functions_without_types ds)
functions_without_types (Global name binder value ∷ ds) = functions_without_types ds

-- a function without types, where calls in its body are the same
function_without_types : (schemas : SchemaSet) (functions : List TypedFunction) (globals : Bindings) (left : ℕ) (values : List Items) (forest : Forest)
    → calls_over schemas (map plain_function functions) globals left ≡ calls_over schemas functions globals left → (found : Option TypedFunction)
    → given (option_map plain_function found) (function_called schemas (map plain_function functions) globals left values forest)
    ≡ given found (function_called schemas functions globals left values forest)
function_without_types schemas functions globals left values forest same None = refl
function_without_types schemas functions globals left values forest same (Some f) =
    ap (λ (calls : CallOutcomes). after (meaning (record { schemas = schemas; calls = calls }) (plain f.body) (arguments_bound f.parameters values ++ globals) forest) (λ xs now. converted schemas f.result xs now)) same
    ∙ ap (λ (d : Denotation). after (d (arguments_bound f.parameters values ++ globals) forest) (λ xs now. converted schemas f.result xs now))
    (plain_means_the_same SequenceType (context_over schemas functions globals left) f.body)

call_without_types : (schemas : SchemaSet) (functions : List TypedFunction) (globals : Bindings) (left : ℕ) (signature : FunctionSignature) (values : List Items) (forest : Forest)
    → calls_over schemas (map plain_function functions) globals left signature values forest ≡ calls_over schemas functions globals left signature values forest
call_without_types schemas functions globals zero signature values forest =
    calls_end schemas (map plain_function functions) globals signature values forest ∙ sym (calls_end schemas functions globals signature values forest)
call_without_types schemas functions globals (suc left) signature values forest =
    calls_go_on schemas (map plain_function functions) globals left signature values forest
    ∙ ap (λ (o : Option CoreFunction). given o (function_called schemas (map plain_function functions) globals left values forest)) (slice_map plain_function functions signature.number)
    ∙ function_without_types schemas functions globals left values forest (λ i. λ s vs f. call_without_types schemas functions globals left s vs f i) (slice_get functions signature.number)
    ∙ sym (calls_go_on schemas functions globals left signature values forest)

pub calls_look_at_no_type : (schemas : SchemaSet) (functions : List TypedFunction) (globals : Bindings) (left : ℕ)
    → calls_over schemas (map plain_function functions) globals left ≡ calls_over schemas functions globals left
calls_look_at_no_type schemas functions globals left = λ i. λ signature values forest. call_without_types schemas functions globals left signature values forest i

context_without_types : (schemas : SchemaSet) (functions : List TypedFunction) (globals : Bindings) (left : ℕ)
    → context_over schemas (map plain_function functions) globals left ≡ context_over schemas functions globals left
context_without_types schemas functions globals left =
    ap (λ (calls : CallOutcomes). let k : Context = record { schemas = schemas; calls = calls } in k) (calls_look_at_no_type schemas functions globals left)

globals_without_types : (schemas : SchemaSet) (functions : List TypedFunction) (limit : ℕ) (ds : List TypedDeclaration) (documents : List PlainNode)
    (bindings : Bindings) (forest : Forest)
    → globals_bound schemas (map plain_function functions) limit (map plain_declaration ds) documents bindings forest
    ≡ globals_bound schemas functions limit ds documents bindings forest
globals_without_types schemas functions limit [] documents bindings forest = refl
globals_without_types schemas functions limit (Function f ∷ ds) documents bindings forest =
    globals_without_types schemas functions limit ds documents bindings forest
globals_without_types schemas functions limit (Global name binder (Some value) ∷ ds) documents bindings forest =
    ap (λ (k : Context). after (meaning k (plain value) bindings forest)
    (λ items left. globals_bound schemas (map plain_function functions) limit (map plain_declaration ds) documents ((binder.variable, items) ∷ bindings) left))
    (context_without_types schemas functions bindings limit)
    ∙ ap (λ (d : Denotation). after (d bindings forest)
    (λ items left. globals_bound schemas (map plain_function functions) limit (map plain_declaration ds) documents ((binder.variable, items) ∷ bindings) left))
    (plain_means_the_same SequenceType (context_over schemas functions bindings limit) value)
    ∙ (λ i. after (meaning (context_over schemas functions bindings limit) value bindings forest)
    (λ items left. globals_without_types schemas functions limit ds documents ((binder.variable, items) ∷ bindings) left i))
globals_without_types schemas functions limit (Global name binder None ∷ ds) [] bindings forest = refl
globals_without_types schemas functions limit (Global name binder None ∷ ds) (document ∷ documents) bindings forest =
    globals_without_types schemas functions limit ds documents ((binder.variable, node document ∷ []) ∷ bindings) forest

pub query_meaning_looks_at_no_type : QueryMeaningLooksAtNoType
query_meaning_looks_at_no_type limit schemas query documents forest =
    let functions : List TypedFunction = functions_of query.declarations in
    ap (λ (fs : List CoreFunction). after (globals_bound schemas fs limit (map plain_declaration query.declarations) documents [] forest)
    (λ bindings left. meaning (context_over schemas fs bindings limit) (plain query.body) bindings left)) (functions_without_types query.declarations)
    ∙ ap (λ (o : Outcome Bindings). after o (λ bindings left. meaning (context_over schemas (map plain_function functions) bindings limit) (plain query.body) bindings left))
    (globals_without_types schemas functions limit query.declarations documents [] forest)
    ∙ (λ i. after (globals_bound schemas functions limit query.declarations documents [] forest)
    (λ bindings left. body_same functions bindings left i))
  where
    body_same : (functions : List TypedFunction) (bindings : Bindings) (left : Forest)
        → meaning (context_over schemas (map plain_function functions) bindings limit) (plain query.body) bindings left
        ≡ meaning (context_over schemas functions bindings limit) query.body bindings left
    body_same functions bindings left =
        ap (λ (k : Context). meaning k (plain query.body) bindings left) (context_without_types schemas functions bindings limit)
        ∙ ap (λ (d : Denotation). d bindings left) (plain_means_the_same SequenceType (context_over schemas functions bindings limit) query.body)
