-- What typed trees are compiled to has its types, and is fully sound.
use Rattle.std.proofs.Common.{◌≡◌, ℕ, Bool, true, false, ◌&&◌, ◌||◌, List, [], ◌∷◌, ◌++◌, map, Option, None, Some, refl, sym, ◌∙◌, ap, subst}
use Rattle.std.specs.Prelude.{not, option_map}
use Rattle.gx_base.specs.declared.place.Place.{Place}
use Rattle.gx_types.specs.SchemaSet.{SchemaSet}
use Rattle.gx_types.specs.SchemaInvariant.{IsSchemaSet}
use Rattle.gx_types.specs.SequenceType.{SequenceType}
use Rattle.gx_include.specs.Decision.{is_included}
use Rattle.gx_model.specs.Belongs.{Belongs}
use Rattle.gx_core.specs.declared.expression.Declaration.TheVariants.{Global, Function}
use Rattle.gx_core.specs.declared.operator.Operator.{Operator}
use Rattle.gx_core.specs.declared.operator.Operator.TheVariants as operators
use Rattle.gx_core.specs.declared.signature.FunctionSignature.{FunctionSignature}
use Rattle.gx_core.specs.Queries.{TypedCore, TypedDeclaration, TypedFunction}
use Rattle.gx_core.specs.Expression.{At, Parts, no_parts, a_part, each_of, annotation_of}
use Rattle.gx_core.specs.Bindings.{Types, types_bound, numbers_bound_by}
use Rattle.gx_core.specs.FreeVariables.{names_variable, is_free_in, is_free_in_parts}
use Rattle.gx_core.specs.Invariant.{is_among}
use Rattle.gx_core.specs.CalledFunctions.{IsCallOf, AllCalls, AllCallsInParts}
use Rattle.gx_core.specs.QueryMeaning.{global_types, types_declared, parameter_types, functions_declared, IsCallable, CallsCallable}
use Rattle.gx_core.specs.Soundness.{TypedExpression}
use Rattle.gx_core.proofs.CallLemmas.{slice_map}
use Rattle.gx_static.specs.Rule.{has_type, nodes_type, ruling}
use Rattle.gx_static.proofs.Keeping.{tested}
use Rattle.gx_static.proofs.SoundTyping.{IfTyped}
use Rattle.gx_static.proofs.QueryLaws.{query_sound}
use Rattle.gx_plan.specs.declared.plan.Carried.{Carried}
use Rattle.gx_plan.specs.Plan.{typed_expression, typed_parts, typed_declaration, typed_query}
use Rattle.gx_plan.specs.Compiling.{compiled_operator, compiled, compiled_parts, compiled_declaration, compiled_query}
use Rattle.gx_plan.specs.FullSoundness.{body_types, IsFullySound, ConvertsItsResult, DeclarationsAreFullySound, IsFullySoundQuery}
use Rattle.gx_sound_typing.specs.CompiledTyping.{CompiledExpressionsHaveTheirTypes, CompiledQueriesAreFullySound}
use Rattle.gx_sound_typing.proofs.TypedTrees.{HasItsTypes, PartsHaveTheirTypes, expression_has, types_are_judged}
use Rattle.gx_sound_typing.proofs.NamedVariables.{types_where_named}
use Rattle.gx_sound_typing.proofs.FullTyping.{DeclarationHasItsTypes, DeclarationsHaveTheirTypes, QueryHasItsTypes, query_has, full, query_full}

-- ---- types

-- the typed tree that is meant by what a typed tree is compiled to
abbrev pub again : TypedExpression → TypedExpression
again t = typed_expression (compiled t)

operator_again : (s : SchemaSet) (place outer : Place) (k : SequenceType) (operator : Operator) (parts : Parts Carried) (types : Types) → ruling s operator (each_of annotation_of (typed_parts parts)) types ≡ has_type k
    → PartsHaveTheirTypes s operator [] (typed_parts parts) types
    → HasItsTypes s (typed_expression (compiled_operator place outer k operator parts)) types × (annotation_of (typed_expression (compiled_operator place outer k operator parts)) ≡ k)
operator_again s place outer k operators.Nodes (a_part operand no_parts) types e h =
    let a : SequenceType = annotation_of (typed_expression operand) in
    (h.0, (tested (is_included s a nodes_type) a k _ _ e).1)
operator_again s place outer k _ parts types e h = ((e, h), refl)

mutual
  pub tree_again : (s : SchemaSet) (t : TypedExpression) (types : Types) → HasItsTypes s t types → HasItsTypes s (again t) types × (annotation_of (again t) ≡ annotation_of t)
  tree_again s (At place outer k operator parts) types h =
      let p = parts_again s operator [] parts types h.1 in
      operator_again s place outer k operator (compiled_parts parts) types (subst (λ (ts : List SequenceType). ruling s operator ts types ≡ has_type k) (sym p.1) h.0) p.0

  pub parts_again : (s : SchemaSet) (operator : Operator) (before : List SequenceType) (parts : Parts SequenceType) (types : Types) → PartsHaveTheirTypes s operator before parts types
      → PartsHaveTheirTypes s operator before (typed_parts (compiled_parts parts)) types × (each_of annotation_of (typed_parts (compiled_parts parts)) ≡ each_of annotation_of parts)
  parts_again s operator before no_parts types h = (tt, refl)
  parts_again s operator before (a_part first others) types h =
      let f = tree_again s first (types_bound operator before ++ types) h.0 in
      let r = parts_again s operator (before ++ annotation_of first ∷ []) others types h.1 in
      let same = f.1 in
      let rest = r.1 in (
        (f.0, subst (λ (u : SequenceType). PartsHaveTheirTypes s operator (before ++ u ∷ []) (typed_parts (compiled_parts others)) types) (sym f.1) r.0),
        λ i. same i ∷ rest i,
      )

pub compiled_expressions_have_their_types : CompiledExpressionsHaveTheirTypes
compiled_expressions_have_their_types s e types t j =
    types_are_judged s (again t) types (tree_again s t types (subst (IfTyped (λ u. HasItsTypes s u types)) j (expression_has s e types))).0

-- ---- calls

operator_calls : (known : List FunctionSignature) (place outer : Place) (k : SequenceType) (operator : Operator) (parts : Parts Carried) → IsCallOf known operator → AllCallsInParts known (typed_parts parts)
    → AllCalls known (typed_expression (compiled_operator place outer k operator parts))
operator_calls known place outer k operators.Nodes (a_part operand no_parts) c h = h.0
operator_calls known place outer k _ parts c h = (c, h)

mutual
  calls_again : (known : List FunctionSignature) (t : TypedExpression) → AllCalls known t → AllCalls known (again t)
  calls_again known (At place outer k operator parts) h = operator_calls known place outer k operator (compiled_parts parts) h.0 (calls_in_parts_again known parts h.1)

  calls_in_parts_again : (known : List FunctionSignature) (parts : Parts SequenceType) → AllCallsInParts known parts → AllCallsInParts known (typed_parts (compiled_parts parts))
  calls_in_parts_again known no_parts h = tt
  calls_in_parts_again known (a_part first others) h = (calls_again known first h.0, calls_in_parts_again known others h.1)

-- ---- names

or_nothing : (b : Bool) → b ≡ (b || false)
or_nothing true = refl
or_nothing false = refl

operator_free : (place outer : Place) (k : SequenceType) (operator : Operator) (parts : Parts Carried) (number : ℕ)
    → is_free_in (typed_expression (compiled_operator place outer k operator parts)) number ≡ (names_variable operator number || is_free_in_parts operator [] (typed_parts parts) number)
operator_free place outer k operators.Nodes (a_part operand no_parts) number = or_nothing (is_free_in (typed_expression operand) number)
operator_free place outer k _ parts number = refl

mutual
  free_again : (t : TypedExpression) (number : ℕ) → is_free_in (again t) number ≡ is_free_in t number
  free_again (At place outer k operator parts) number =
      operator_free place outer k operator (compiled_parts parts) number ∙ ap (λ (b : Bool). names_variable operator number || b) (free_in_parts_again operator [] parts number)

  free_in_parts_again : (operator : Operator) (before : List (Unit {0})) (parts : Parts SequenceType) (number : ℕ) → is_free_in_parts operator before (typed_parts (compiled_parts parts)) number ≡ is_free_in_parts operator before parts number
  free_in_parts_again operator before no_parts number = refl
  free_in_parts_again operator before (a_part first others) number =
      let here = free_again first number in
      let there = free_in_parts_again operator (before ++ tt ∷ []) others number in
      λ i. (not (is_among (numbers_bound_by operator before) number) && here i) || there i

-- ---- declarations

abbrev pub declaration_again : TypedDeclaration → TypedDeclaration
declaration_again d = typed_declaration (compiled_declaration d)

abbrev pub declarations_again : List TypedDeclaration → List TypedDeclaration
declarations_again ds = map typed_declaration (map compiled_declaration ds)

abbrev pub function_again : TypedFunction → TypedFunction
function_again function =
    record { place = function.place; name = function.name; parameters = function.parameters; result = function.result; body = again function.body }

abbrev pub behind_again : TypedFunction × Types → TypedFunction × Types
behind_again behind = (function_again behind.0, behind.1)

global_again : (s : SchemaSet) (d : TypedDeclaration) (types : Types) → DeclarationHasItsTypes s d types → global_types (declaration_again d) ≡ global_types d
global_again s (Global name binder (Some value)) types h = ap (λ (t : SequenceType). (binder.variable, t) ∷ []) (tree_again s value types h).1
global_again s (Global name binder None) types h = refl
global_again s (Function function) types h = refl

declaration_has_again : (s : SchemaSet) (d : TypedDeclaration) (types : Types) → DeclarationHasItsTypes s d types → DeclarationHasItsTypes s (declaration_again d) types
declaration_has_again s (Global name binder (Some value)) types h = (tree_again s value types h).0
declaration_has_again s (Global name binder None) types h = tt
declaration_has_again s (Function function) types h = (tree_again s function.body (parameter_types function.parameters ++ types) h).0

declarations_have_again : (s : SchemaSet) (ds : List TypedDeclaration) (types : Types) → DeclarationsHaveTheirTypes s ds types → DeclarationsHaveTheirTypes s (declarations_again ds) types
declarations_have_again s [] types h = tt
declarations_have_again s (d ∷ ds) types h = (
  declaration_has_again s d types h.0,
  subst (λ (bound : Types). DeclarationsHaveTheirTypes s (declarations_again ds) (bound ++ types)) (sym (global_again s d types h.0)) (declarations_have_again s ds (global_types d ++ types) h.1),
)

declared_again : (s : SchemaSet) (ds : List TypedDeclaration) (types : Types) → DeclarationsHaveTheirTypes s ds types → types_declared (declarations_again ds) types ≡ types_declared ds types
declared_again s [] types h = refl
declared_again s (d ∷ ds) types h =
    ap (λ (bound : Types). types_declared (declarations_again ds) (bound ++ types)) (global_again s d types h.0) ∙ declared_again s ds (global_types d ++ types) h.1

functions_again : (s : SchemaSet) (ds : List TypedDeclaration) (types : Types) → DeclarationsHaveTheirTypes s ds types
    → functions_declared (declarations_again ds) types ≡ map behind_again (functions_declared ds types)
functions_again s [] types h = refl
functions_again s (Global name binder (Some value) ∷ ds) types h =
    let d : TypedDeclaration = Global name binder (Some value) in
    ap (λ (bound : Types). functions_declared (declarations_again ds) (bound ++ types)) (global_again s d types h.0) ∙ functions_again s ds (global_types d ++ types) h.1
functions_again s (Global name binder None ∷ ds) types h =
    let d : TypedDeclaration = Global name binder None in functions_again s ds (global_types d ++ types) h.1
functions_again s (Function function ∷ ds) types h = ap (λ (fs : List (TypedFunction × Types)). behind_again (function, types) ∷ fs) (functions_again s ds types h.1)

-- ---- functions that are called

callable_again : (functions : List (TypedFunction × Types)) (types : Types) (known : List FunctionSignature) (signature : FunctionSignature) → IsCallable functions types known signature
    → IsCallable (map behind_again functions) types known signature
callable_again functions types known signature c = record {
  function = function_again c.function;
  before = c.before;
  declared = slice_map behind_again functions signature.number ∙ ap (λ (found : Option (TypedFunction × Types)). option_map behind_again found) c.declared;
  is = c.is;
  calls = calls_again known c.function.body c.calls;
  named = λ number t free unbound found. c.named number t (sym (free_again c.function.body number) ∙ free) unbound found;
}

calls_callable_again : (functions : List (TypedFunction × Types)) (types : Types) (t : TypedExpression) → CallsCallable functions types t → CallsCallable (map behind_again functions) types (again t)
calls_callable_again functions types t c = record {
  known = c.known;
  calls = calls_again c.known t c.calls;
  callable = λ signature one. callable_again functions types c.known signature (c.callable signature one);
}

-- ---- what is compiled is fully sound

result_again : (s : SchemaSet) (function : TypedFunction) → annotation_of (again function.body) ≡ annotation_of function.body → ConvertsItsResult s function → ConvertsItsResult s (function_again function)
result_again s function same converts forest value honest belongs = converts forest value honest (subst (λ (t : SequenceType). Belongs s forest value t) same belongs)

declarations_full_again : (s : SchemaSet) → IsSchemaSet s → (functions : List (TypedFunction × Types)) (ds : List TypedDeclaration) (types : Types) → DeclarationsHaveTheirTypes s ds types
    → DeclarationsAreFullySound s types_bound functions ds types → DeclarationsAreFullySound s types_bound (map behind_again functions) (declarations_again ds) types
declarations_full_again s is functions [] types have are = tt
declarations_full_again s is functions (Global name binder (Some value) ∷ ds) types have are =
    let d : TypedDeclaration = Global name binder (Some value) in (
      (full s is (again value) types (tree_again s value types have.0).0, calls_callable_again functions types value are.0.1),
      subst (λ (bound : Types). DeclarationsAreFullySound s types_bound (map behind_again functions) (declarations_again ds) (bound ++ types)) (sym (global_again s d types have.0))
          (declarations_full_again s is functions ds (global_types d ++ types) have.1 are.1),
    )
declarations_full_again s is functions (Global name binder None ∷ ds) types have are =
    let d : TypedDeclaration = Global name binder None in
    (tt, declarations_full_again s is functions ds (global_types d ++ types) have.1 are.1)
declarations_full_again s is functions (Function function ∷ ds) types have are =
    let b = tree_again s function.body (parameter_types function.parameters ++ types) have.0 in (
      record {
        body = full s is (again function.body) (body_types (function_again function) types) (types_where_named s (again function.body) (parameter_types function.parameters ++ types) b.0);
        converts = result_again s function b.1 are.0.converts;
      },
      declarations_full_again s is functions ds types have.1 are.1,
    )

pub query_full_again : (s : SchemaSet) → IsSchemaSet s → (query : TypedCore) → QueryHasItsTypes s query → IsFullySoundQuery s types_bound query
    → IsFullySoundQuery s types_bound (typed_query (compiled_query query))
query_full_again s is query have are =
    let functions : List (TypedFunction × Types) = functions_declared query.declarations [] in
    let types : Types = types_declared query.declarations [] in
    let declared : types_declared (declarations_again query.declarations) [] ≡ types = declared_again s query.declarations [] have.declarations in
    let found : functions_declared (declarations_again query.declarations) [] ≡ map behind_again functions = functions_again s query.declarations [] have.declarations in
    let calls : CallsCallable (map behind_again functions) types (again query.body) = calls_callable_again functions types query.body are.calls in
    record {
      declarations = subst (λ (fs : List (TypedFunction × Types)). DeclarationsAreFullySound s types_bound fs (declarations_again query.declarations) []) (sym found)
          (declarations_full_again s is functions query.declarations [] have.declarations are.declarations);
      body = subst (λ (bound : Types). IsFullySound s types_bound (again query.body) bound) (sym declared) (full s is (again query.body) types (tree_again s query.body types have.body).0);
      calls = subst (λ (fs : List (TypedFunction × Types)). CallsCallable fs (types_declared (declarations_again query.declarations) []) (again query.body)) (sym found)
          (subst (λ (bound : Types). CallsCallable (map behind_again functions) bound (again query.body)) (sym declared) calls);
    }

pub compiled_queries_are_fully_sound : CompiledQueriesAreFullySound
compiled_queries_are_fully_sound s core query is j order calls =
    let have = query_has s core query j in
    query_full_again s is query have (query_full s is query have ((query_sound s core query is j).sound order calls))
