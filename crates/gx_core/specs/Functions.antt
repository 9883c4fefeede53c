-- The functions that a query declares, and what calls of them come to (XQuery 1.0, sections 3.1.5 and 4.15).
use Rattle.std.specs.Prelude.{ℕ, zero, suc, List, [], ◌∷◌, ◌++◌, map, Option, None, Some, unwrap_or}
use Rattle.std.specs.List.{slice_get}
use Rattle.gx_base.specs.declared.code.Code.TheVariants.{GLXD0001}
use Rattle.gx_types.specs.SchemaSet.{SchemaSet}
use Rattle.gx_types.specs.SequenceType.{SequenceType}
use Rattle.gx_model.specs.Forest.{Forest}
use Rattle.gx_model.specs.Item.{Items}
use Rattle.gx_core.specs.declared.expression.Binder.{Binder}
use Rattle.gx_core.specs.declared.expression.Declaration.{Declaration}
use Rattle.gx_core.specs.declared.expression.Declaration.TheVariants.{Global, Function}
use Rattle.gx_core.specs.declared.expression.DeclaredFunction.{DeclaredFunction}
use Rattle.gx_core.specs.Outcome.{Outcome, raises, after, given}
use Rattle.gx_core.specs.Converting.{converted}
use Rattle.gx_core.specs.Meaning.{CallOutcomes, Context, Bindings, meaning}

-- in the order of their declarations
abbrev pub functions_of : {A : Type 0} → List (Declaration A) → List (DeclaredFunction A)
functions_of [] = []
functions_of (Function function ∷ others) = function ∷ functions_of others
functions_of (Global name binder value ∷ others) = functions_of others

-- each parameter is bound to its argument
abbrev pub arguments_bound : List Binder → List Items → Bindings
arguments_bound (parameter ∷ parameters) (value ∷ values) = (parameter.variable, value) ∷ arguments_bound parameters values
arguments_bound _ _ = []

-- calls where so many more may be active, behind the globals that are bound: the body of the function is evaluated with its parameters
-- and these globals, and its value is converted to the type of the result
unfoldable pub calls_over : {A : Type 0} → SchemaSet → List (DeclaredFunction A) → (globals : Bindings) → (left : ℕ) → CallOutcomes
calls_over schemas functions globals zero signature values forest = raises GLXD0001
calls_over schemas functions globals (suc left) signature values forest =
    given (slice_get functions signature.number)
    (λ f. after (meaning (record { schemas = schemas; calls = calls_over schemas functions globals left }) f.body (arguments_bound f.parameters values ++ globals) forest)
    (λ xs now. converted schemas f.result xs now))

-- what an expression of a query stands in, behind the globals that are bound, where so many calls may be active
abbrev pub context_over : {A : Type 0} → SchemaSet → List (DeclaredFunction A) → (globals : Bindings) → (left : ℕ) → Context
context_over schemas functions globals left = record { schemas = schemas; calls = calls_over schemas functions globals left }
