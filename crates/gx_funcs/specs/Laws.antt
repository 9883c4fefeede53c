-- The laws of the table of functions.
use Rattle.std.specs.Prelude.{◌≡◌, ℕ, true, List, Some}
use Rattle.gx_funcs.specs.declared.function.Function.{Function}
use Rattle.gx_funcs.specs.Function.{function_name, arity_of, is_of_name, function_named, IsInTable}

-- a function is found by its name and the number of its parameters, and what is found has that name and so many parameters
pub record FunctionsAreFoundByName : Type 0 where
  pub found : (function : Function) → IsInTable function → function_named (function_name function) (arity_of function) ≡ Some function
  pub named : (local : List ℕ) (arity : ℕ) (function : Function) → function_named local arity ≡ Some function → is_of_name local arity function ≡ true
