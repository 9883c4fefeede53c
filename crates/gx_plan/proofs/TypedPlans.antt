-- A plan comes to the same as the typed Core that it means.
use Rattle.std.proofs.Common.{◌≡◌, ℕ, zero, suc, List, [], ◌∷◌, ◌++◌, map, Option, None, Some, refl, ◌∙◌, ap, sym}
use Rattle.std.specs.Prelude.{option_map}
use Rattle.std.specs.List.{slice_get}
use Rattle.gx_types.specs.SchemaSet.{SchemaSet}
use Rattle.gx_model.specs.Forest.{PlainNode, Forest}
use Rattle.gx_model.specs.Item.{node, Items}
use Rattle.gx_core.specs.declared.expression.Declaration.TheVariants.{Global, Function}
use Rattle.gx_core.specs.declared.expression.Declaration.{Declaration}
use Rattle.gx_core.specs.declared.expression.DeclaredFunction.{DeclaredFunction}
use Rattle.gx_core.specs.declared.signature.FunctionSignature.{FunctionSignature}
use Rattle.gx_core.specs.Queries.{TypedFunction}
use Rattle.gx_core.specs.Expression.{At, Parts, no_parts, a_part}
use Rattle.gx_core.specs.Outcome.{Outcome, after, given}
use Rattle.gx_core.specs.Converting.{converted}
use Rattle.gx_core.specs.Meaning.{CallOutcomes, Context, Bindings, Denotation, denoted, meaning, meanings}
use Rattle.gx_core.specs.Functions.{functions_of, arguments_bound, calls_over, context_over}
use Rattle.gx_core.specs.QueryMeaning.{globals_bound}
use Rattle.gx_core.proofs.CallLemmas.{calls_end, function_called, calls_go_on, slice_map}
use Rattle.gx_plan.specs.declared.plan.Carried.{Carried}
use Rattle.gx_plan.specs.Plan.{PlanExpression, typed_expression, typed_parts, typed_declaration}
use Rattle.gx_plan.specs.PlanMeaning.{PlansMeanTheirTypedCore, PlansHaveTheOutcomeOfTheirTypedCore}

-- ---- expressions

mutual
  typed_means : (context : Context) (e : PlanExpression) → meaning context (typed_expression e) ≡ meaning context e
  typed_means context (At place outer carried operator parts) = ap (denoted context operator) (typed_parts_mean context parts)

  typed_parts_mean : (context : Context) (parts : Parts Carried) → meanings context (typed_parts parts) ≡ meanings context parts
  typed_parts_mean context no_parts = refl
  typed_parts_mean context (a_part first others) =
      ap (λ (d : Denotation). d ∷ meanings context (typed_parts others)) (typed_means context first)
      ∙ ap (λ (ds : List Denotation). meaning context first ∷ ds) (typed_parts_mean context others)

pub plans_mean_their_typed_core : PlansMeanTheirTypedCore
plans_mean_their_typed_core context e bindings forest = sym (ap (λ (d : Denotation). d bindings forest) (typed_means context e))

-- ---- calls

abbrev typed_function : DeclaredFunction Carried → TypedFunction
typed_function function =
    record { place = function.place; name = function.name; parameters = function.parameters; result = function.result; body = typed_expression function.body }

functions_typed : (ds : List (Declaration Carried)) → functions_of (map typed_declaration ds) ≡ map typed_function (functions_of ds)
functions_typed [] = refl
functions_typed (Function f ∷ ds) = ap (λ (fs : List TypedFunction). typed_function f ∷ fs) (functions_typed ds)
functions_typed (Global name binder value ∷ ds) = functions_typed ds

-- a typed function, where calls in its body are the same
function_typed : (s : SchemaSet) (functions : List (DeclaredFunction Carried)) (globals : Bindings) (left : ℕ) (values : List Items) (forest : Forest)
    → calls_over s (map typed_function functions) globals left ≡ calls_over s functions globals left → (found : Option (DeclaredFunction Carried))
    → given (option_map typed_function found) (function_called s (map typed_function functions) globals left values forest)
    ≡ given found (function_called s functions globals left values forest)
function_typed s functions globals left values forest same None = refl
function_typed s functions globals left values forest same (Some f) =
    ap (λ (calls : CallOutcomes). after (meaning (record { schemas = s; calls = calls }) (typed_expression f.body) (arguments_bound f.parameters values ++ globals) forest) (λ xs now. converted s f.result xs now)) same
    ∙ ap (λ (d : Denotation). after (d (arguments_bound f.parameters values ++ globals) forest) (λ xs now. converted s f.result xs now))
    (typed_means (context_over s functions globals left) f.body)

call_typed : (s : SchemaSet) (functions : List (DeclaredFunction Carried)) (globals : Bindings) (left : ℕ) (signature : FunctionSignature) (values : List Items) (forest : Forest)
    → calls_over s (map typed_function functions) globals left signature values forest ≡ calls_over s functions globals left signature values forest
call_typed s functions globals zero signature values forest =
    calls_end s (map typed_function functions) globals signature values forest ∙ sym (calls_end s functions globals signature values forest)
call_typed s functions globals (suc left) signature values forest =
    calls_go_on s (map typed_function functions) globals left signature values forest
    ∙ ap (λ (o : Option TypedFunction). given o (function_called s (map typed_function functions) globals left values forest)) (slice_map typed_function functions signature.number)
    ∙ function_typed s functions globals left values forest (λ i. λ called vs f. call_typed s functions globals left called vs f i) (slice_get functions signature.number)
    ∙ sym (calls_go_on s functions globals left signature values forest)

context_typed : (s : SchemaSet) (functions : List (DeclaredFunction Carried)) (globals : Bindings) (left : ℕ)
    → context_over s (map typed_function functions) globals left ≡ context_over s functions globals left
context_typed s functions globals left =
    ap (λ (calls : CallOutcomes). let k : Context = record { schemas = s; calls = calls } in k) (λ i. λ signature values forest. call_typed s functions globals left signature values forest i)

-- ---- whole plans

globals_typed : (s : SchemaSet) (functions : List (DeclaredFunction Carried)) (limit : ℕ) (ds : List (Declaration Carried)) (documents : List PlainNode)
    (bindings : Bindings) (forest : Forest)
    → globals_bound s (map typed_function functions) limit (map typed_declaration ds) documents bindings forest
    ≡ globals_bound s functions limit ds documents bindings forest
globals_typed s functions limit [] documents bindings forest = refl
globals_typed s functions limit (Function f ∷ ds) documents bindings forest = globals_typed s functions limit ds documents bindings forest
globals_typed s functions limit (Global name binder (Some value) ∷ ds) documents bindings forest =
    ap (λ (k : Context). after (meaning k (typed_expression value) bindings forest)
    (λ items left. globals_bound s (map typed_function functions) limit (map typed_declaration ds) documents ((binder.variable, items) ∷ bindings) left))
    (context_typed s functions bindings limit)
    ∙ ap (λ (d : Denotation). after (d bindings forest)
    (λ items left. globals_bound s (map typed_function functions) limit (map typed_declaration ds) documents ((binder.variable, items) ∷ bindings) left))
    (typed_means (context_over s functions bindings limit) value)
    ∙ (λ i. after (meaning (context_over s functions bindings limit) value bindings forest)
    (λ items left. globals_typed s functions limit ds documents ((binder.variable, items) ∷ bindings) left i))
globals_typed s functions limit (Global name binder None ∷ ds) [] bindings forest = refl
globals_typed s functions limit (Global name binder None ∷ ds) (document ∷ documents) bindings forest =
    globals_typed s functions limit ds documents ((binder.variable, node document ∷ []) ∷ bindings) forest

pub plans_have_the_outcome_of_their_typed_core : PlansHaveTheOutcomeOfTheirTypedCore
plans_have_the_outcome_of_their_typed_core limit s plan documents forest =
    let functions : List (DeclaredFunction Carried) = functions_of plan.declarations in
    sym (ap (λ (fs : List TypedFunction). after (globals_bound s fs limit (map typed_declaration plan.declarations) documents [] forest)
    (λ bindings left. meaning (context_over s fs bindings limit) (typed_expression plan.body) bindings left)) (functions_typed plan.declarations)
    ∙ ap (λ (o : Outcome Bindings). after o (λ bindings left. meaning (context_over s (map typed_function functions) bindings limit) (typed_expression plan.body) bindings left))
    (globals_typed s functions limit plan.declarations documents [] forest)
    ∙ (λ i. after (globals_bound s functions limit plan.declarations documents [] forest)
    (λ bindings left. body_same functions bindings left i)))
  where
    body_same : (functions : List (DeclaredFunction Carried)) (bindings : Bindings) (left : Forest)
        → meaning (context_over s (map typed_function functions) bindings limit) (typed_expression plan.body) bindings left
        ≡ meaning (context_over s functions bindings limit) plan.body bindings left
    body_same functions bindings left =
        ap (λ (k : Context). meaning k (typed_expression plan.body) bindings left) (context_typed s functions bindings limit)
        ∙ ap (λ (d : Denotation). d bindings left) (typed_means (context_over s functions bindings limit) plan.body)
