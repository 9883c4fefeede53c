-- A compiled query has the outcome of the sound query that it is made of.
use Rattle.std.proofs.Common.{◌≡◌, inl, inr, ℕ, zero, suc, Bool, true, false, Option, None, Some, List, [], ◌∷◌, ◌++◌, map, refl, sym, ◌∙◌, ap, subst, if◌then◌else◌}
use Rattle.std.specs.Prelude.{option_map}
use Rattle.std.specs.List.{slice_get, list_all}
use Rattle.gx_base.specs.declared.place.Place.{Place}
use Rattle.gx_types.specs.SchemaSet.{SchemaSet}
use Rattle.gx_types.specs.SequenceType.{SequenceType}
use Rattle.gx_model.specs.Forest.{PlainNode, Forest}
use Rattle.gx_model.specs.Item.{node, Items}
use Rattle.gx_core.specs.declared.expression.Declaration.TheVariants.{Global, Function}
use Rattle.gx_core.specs.declared.expression.DeclaredFunction.{DeclaredFunction}
use Rattle.gx_core.specs.declared.operator.Operator.{Operator}
use Rattle.gx_core.specs.declared.operator.Operator.TheVariants as operators
use Rattle.gx_core.specs.Queries.{TypedCore, TypedDeclaration, TypedFunction}
use Rattle.gx_core.specs.Expression.{At, Parts, no_parts, a_part}
use Rattle.gx_core.specs.Outcome.{Outcome, gives, raises, wrong, after, given}
use Rattle.gx_core.specs.Converting.{converted}
use Rattle.gx_core.specs.Paths.{is_node}
use Rattle.gx_core.specs.Meaning.{CallOutcomes, Context, Bindings, acts, denoted, meaning, meanings}
use Rattle.gx_core.specs.Functions.{functions_of, arguments_bound, calls_over, context_over}
use Rattle.gx_core.specs.Soundness.{TypedExpression, typed_setting, Keeps}
use Rattle.gx_core.specs.QueryMeaning.{query_type, globals_bound, outcome_within}
use Rattle.gx_core.proofs.CallLemmas.{calls_end, function_called, calls_go_on, slice_map, query_meaning_looks_at_no_type}
use Rattle.gx_core.proofs.SoundQueries.{sound_queries_keep}
use Rattle.gx_plan.specs.declared.plan.Carried.{Carried}
use Rattle.gx_plan.specs.Compiling.{compiled_operator, compiled, compiled_parts, compiled_declaration, compiled_query, CompilingKeepsOutcomes}
use Rattle.gx_plan.specs.TypeErrors.{IsSameUnlessWrong, DenotesSameUnlessWrong, DenoteSameUnlessWrong, CallsAreSameUnlessWrong}
use Rattle.gx_plan.proofs.UnlessWrong.{unless_after, unless_further, unless_so, operators_are_same_unless_wrong}

-- ---- expressions

-- `nodes` has the value of its operand, or is a type error
nodes_unless : (context : Context) (o : Outcome Items) → IsSameUnlessWrong (after (after o (λ value left. gives (value ∷ []) left)) (acts context operators.Nodes)) o
nodes_unless context (gives xs now) =
    elim (list_all is_node xs) as (λ (alone : Bool). IsSameUnlessWrong (if alone then gives xs now else wrong) (gives xs now)) [
      | true ↦ inr refl
      | false ↦ inl refl
    ]
nodes_unless context (raises code) = inr refl
nodes_unless context wrong = inr refl

operator_unless : (context : Context) (place outer : Place) (kind : SequenceType) (operator : Operator) (parts : Parts Carried)
    → DenotesSameUnlessWrong (denoted context operator (meanings context parts)) (meaning context (compiled_operator place outer kind operator parts))
operator_unless context place outer kind operators.Nodes (a_part operand no_parts) bindings forest = nodes_unless context (meaning context operand bindings forest)
operator_unless context place outer kind operator parts bindings forest = inr refl

mutual
  expression_unless : (s : SchemaSet) (calls others : CallOutcomes) → CallsAreSameUnlessWrong calls others → (e : TypedExpression)
      → DenotesSameUnlessWrong (meaning (record { schemas = s; calls = calls }) e) (meaning (record { schemas = s; calls = others }) (compiled e))
  expression_unless s calls others h (At place outer kind operator parts) bindings forest =
      let context : Context = record { schemas = s; calls = calls } in
      let other : Context = record { schemas = s; calls = others } in
      unless_further (denoted context operator (meanings context parts) bindings forest) (denoted other operator (meanings other (compiled_parts parts)) bindings forest)
      (meaning other (compiled_operator place outer kind operator (compiled_parts parts)) bindings forest)
      (operators_are_same_unless_wrong s calls others operator (meanings context parts) (meanings other (compiled_parts parts)) h (parts_unless s calls others h parts) bindings forest)
      (operator_unless other place outer kind operator (compiled_parts parts) bindings forest)

  parts_unless : (s : SchemaSet) (calls others : CallOutcomes) → CallsAreSameUnlessWrong calls others → (parts : Parts SequenceType)
      → DenoteSameUnlessWrong (meanings (record { schemas = s; calls = calls }) parts) (meanings (record { schemas = s; calls = others }) (compiled_parts parts))
  parts_unless s calls others h no_parts = tt
  parts_unless s calls others h (a_part first rest) = (expression_unless s calls others h first, parts_unless s calls others h rest)

-- ---- calls

abbrev compiled_function : TypedFunction → DeclaredFunction Carried
compiled_function function =
    record { place = function.place; name = function.name; parameters = function.parameters; result = function.result; body = compiled function.body }

functions_compiled : (ds : List TypedDeclaration) → functions_of (map compiled_declaration ds) ≡ map compiled_function (functions_of ds)
functions_compiled [] = refl
functions_compiled (Function f ∷ ds) = ap (λ (fs : List (DeclaredFunction Carried)). compiled_function f ∷ fs) (functions_compiled ds)
functions_compiled (Global name binder value ∷ ds) = functions_compiled ds

function_unless : (s : SchemaSet) (functions : List TypedFunction) (globals : Bindings) (left : ℕ) (values : List Items) (forest : Forest)
    → CallsAreSameUnlessWrong (calls_over s functions globals left) (calls_over s (map compiled_function functions) globals left) → (found : Option TypedFunction)
    → IsSameUnlessWrong (given found (function_called s functions globals left values forest))
    (given (option_map compiled_function found) (function_called s (map compiled_function functions) globals left values forest))
function_unless s functions globals left values forest h None = inl refl
function_unless s functions globals left values forest h (Some f) =
    unless_after (meaning (context_over s functions globals left) f.body (arguments_bound f.parameters values ++ globals) forest)
    (meaning (context_over s (map compiled_function functions) globals left) (compiled f.body) (arguments_bound f.parameters values ++ globals) forest)
    (λ xs now. converted s f.result xs now) (λ xs now. converted s f.result xs now)
    (expression_unless s (calls_over s functions globals left) (calls_over s (map compiled_function functions) globals left) h f.body (arguments_bound f.parameters values ++ globals) forest)
    (λ xs now. inr refl)

calls_unless : (s : SchemaSet) (functions : List TypedFunction) (globals : Bindings) (left : ℕ)
    → CallsAreSameUnlessWrong (calls_over s functions globals left) (calls_over s (map compiled_function functions) globals left)
calls_unless s functions globals zero signature values forest =
    inr (calls_end s functions globals signature values forest ∙ sym (calls_end s (map compiled_function functions) globals signature values forest))
calls_unless s functions globals (suc left) signature values forest =
    let fs : List (DeclaredFunction Carried) = map compiled_function functions in
    unless_so (calls_over s functions globals (suc left) signature values forest) (calls_over s fs globals (suc left) signature values forest)
    (given (slice_get functions signature.number) (function_called s functions globals left values forest))
    (given (option_map compiled_function (slice_get functions signature.number)) (function_called s fs globals left values forest))
    (calls_go_on s functions globals left signature values forest)
    (calls_go_on s fs globals left signature values forest
    ∙ ap (λ (o : Option (DeclaredFunction Carried)). given o (function_called s fs globals left values forest)) (slice_map compiled_function functions signature.number))
    (function_unless s functions globals left values forest (calls_unless s functions globals left) (slice_get functions signature.number))

-- ---- whole queries

globals_unless : (s : SchemaSet) (functions : List TypedFunction) (limit : ℕ) (ds : List TypedDeclaration) (documents : List PlainNode) (bindings : Bindings) (forest : Forest)
    → IsSameUnlessWrong (globals_bound s functions limit ds documents bindings forest)
    (globals_bound s (map compiled_function functions) limit (map compiled_declaration ds) documents bindings forest)
globals_unless s functions limit [] documents bindings forest = inr refl
globals_unless s functions limit (Function f ∷ ds) documents bindings forest = globals_unless s functions limit ds documents bindings forest
globals_unless s functions limit (Global name binder (Some value) ∷ ds) documents bindings forest =
    let fs : List (DeclaredFunction Carried) = map compiled_function functions in
    unless_after (meaning (context_over s functions bindings limit) value bindings forest) (meaning (context_over s fs bindings limit) (compiled value) bindings forest)
    (λ items left. globals_bound s functions limit ds documents ((binder.variable, items) ∷ bindings) left)
    (λ items left. globals_bound s fs limit (map compiled_declaration ds) documents ((binder.variable, items) ∷ bindings) left)
    (expression_unless s (calls_over s functions bindings limit) (calls_over s fs bindings limit) (calls_unless s functions bindings limit) value bindings forest)
    (λ items left. globals_unless s functions limit ds documents ((binder.variable, items) ∷ bindings) left)
globals_unless s functions limit (Global name binder None ∷ ds) [] bindings forest = inl refl
globals_unless s functions limit (Global name binder None ∷ ds) (document ∷ documents) bindings forest =
    globals_unless s functions limit ds documents ((binder.variable, node document ∷ []) ∷ bindings) forest

-- the outcome of a compiled query, with its functions as they are compiled
outcome_unless : (limit : ℕ) (s : SchemaSet) (query : TypedCore) (documents : List PlainNode) (forest : Forest)
    → IsSameUnlessWrong (outcome_within limit s query documents forest) (outcome_within limit s (compiled_query query) documents forest)
outcome_unless limit s query documents forest =
    let functions : List TypedFunction = functions_of query.declarations in
    subst (λ (fs : List (DeclaredFunction Carried)). IsSameUnlessWrong (outcome_within limit s query documents forest)
    (after (globals_bound s fs limit (map compiled_declaration query.declarations) documents [] forest)
    (λ bindings left. meaning (context_over s fs bindings limit) (compiled query.body) bindings left)))
    (sym (functions_compiled query.declarations))
    (unless_after (globals_bound s functions limit query.declarations documents [] forest)
    (globals_bound s (map compiled_function functions) limit (map compiled_declaration query.declarations) documents [] forest)
    (λ bindings left. meaning (context_over s functions bindings limit) query.body bindings left)
    (λ bindings left. meaning (context_over s (map compiled_function functions) bindings limit) (compiled query.body) bindings left)
    (globals_unless s functions limit query.declarations documents [] forest)
    (λ bindings left. expression_unless s (calls_over s functions bindings limit) (calls_over s (map compiled_function functions) bindings limit)
    (calls_unless s functions bindings limit) query.body bindings left))

pub compiling_keeps_outcomes : CompilingKeepsOutcomes
compiling_keeps_outcomes limit s query documents forest honest fit h =
    let keeps : Keeps (typed_setting s) forest (query_type query) (outcome_within limit s query documents forest) =
    subst (λ (o : Outcome Items). Keeps (typed_setting s) forest (query_type query) o) (query_meaning_looks_at_no_type limit s query documents forest)
    (sound_queries_keep limit s query documents forest honest fit h) in
    elim (outcome_unless limit s query documents forest) as (λ _. outcome_within limit s (compiled_query query) documents forest ≡ outcome_within limit s query documents forest) [
      | inl e ↦ absurd (subst (λ (o : Outcome Items). Keeps (typed_setting s) forest (query_type query) o) e keeps)
      | inr e ↦ sym e
    ]
