-- Bindings that stand one inside another, the innermost first.
use Rattle.std.specs.Prelude.{Bool, List, [], ◌∷◌, Option, None, Some, if◌then◌else◌}

-- the value of a key: an inner binding hides an outer one
abbrev pub innermost_value : {K V : Type 0} → (K → K → Bool) → List (K × V) → K → Option V
innermost_value eq [] key = None
innermost_value eq (binding ∷ outer) key = if eq binding.0 key then Some binding.1 else innermost_value eq outer key

abbrev pub flattened : {V : Type 0} → Option (Option V) → Option V
flattened None = None
flattened (Some value) = value
