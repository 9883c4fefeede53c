-- Which functions a value calls, itself or through functions, and the variables that they name (XQuery 1.0, section 4.14).
use Rattle.std.specs.Prelude.{Bool, true, false, not, ◌&&◌, ◌||◌, List, [], ◌∷◌, map, is_none, is_some, unwrap_or}
use Rattle.std.specs.List.{list_any, list_all, filter}
use Rattle.gx_names_scope.specs.declared.signature.Signature.{Signature}
use Rattle.gx_names_uses.specs.declared.uses.Use.{Use}
use Rattle.gx_names_uses.specs.declared.uses.Use.TheVariants as uses
use Rattle.gx_resolved.specs.NestedMap.{innermost_value}
use Rattle.gx_names_scope.specs.Signature.{same_signature}
use Rattle.gx_names_scope.specs.Environment.{Variables, binder_of}

-- the functions that are declared, the last one first, with what their bodies use
abbrev pub Bodies : Type 0
Bodies = List (Signature × List Use)

abbrev pub uses_in : Bodies → Signature → List Use
uses_in bodies function = unwrap_or (innermost_value same_signature bodies function) []

abbrev pub is_function_of : List Signature → Signature → Bool
is_function_of functions function = list_any (same_signature function) functions

-- a variable is in scope, and a function is one of these, or is not declared
abbrev pub is_at_hand : Variables → Bodies → (functions : List Signature) → Use → Bool
is_at_hand variables bodies functions (uses.Variable name) = is_some (binder_of variables name)
is_at_hand variables bodies functions (uses.Function function) = is_function_of functions function || is_none (innermost_value same_signature bodies function)

abbrev pub are_at_hand : Variables → Bodies → (functions : List Signature) → List Use → Bool
are_at_hand variables bodies functions used = list_all (is_at_hand variables bodies functions) used

-- functions that call no others, and name no variables but those in scope
abbrev pub are_settled : Variables → Bodies → (functions : List Signature) → Bool
are_settled variables bodies functions = list_all (λ f. are_at_hand variables bodies functions (uses_in bodies f)) functions

-- whether some of these items, taken together, pass a test
abbrev pub some_pass : {A : Type 0} → (List A → Bool) → List A → Bool
some_pass test [] = test []
some_pass test (x ∷ xs) = some_pass test xs || some_pass (λ chosen. test (x ∷ chosen)) xs

abbrev pub is_call : Use → Bool
is_call (uses.Variable name) = false
is_call (uses.Function function) = true

-- the functions that a value calls, with all that these call in turn, name variables in scope alone
abbrev pub calls_are_settled : Variables → Bodies → List Use → Bool
calls_are_settled variables bodies used =
    some_pass (λ functions. are_settled variables bodies functions && are_at_hand variables bodies functions (filter is_call used)) (map (λ b. b.0) bodies)
