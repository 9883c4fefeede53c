-- Where the innermost binding of each variable stands.
use Rattle.std.specs.Prelude.{◌≡◌, ℕ, List, [], ◌∷◌, Option, Some, None, nat_eq, if◌then◌else◌, length, map, get_or}
use Rattle.gx_core.specs.declared.scope.Binding.{Binding}

abbrev pub bound_pairs : {T : Type 0} → List (Binding T) → List (ℕ × T)
bound_pairs bindings = map (λ binding. (binding.variable, binding.bound)) bindings

-- the innermost first, and counted from the outermost
abbrev pub innermost_slot : {T : Type 0} → List (Binding T) → ℕ → Option ℕ
innermost_slot [] variable = None
innermost_slot (binding ∷ outer) variable = if nat_eq binding.variable variable then Some (length outer) else innermost_slot outer variable

-- each binding keeps where that one stands which it hides
abbrev pub KeepHidden : {T : Type 0} → List (Binding T) → Type 0
KeepHidden [] = Unit {0}
KeepHidden (binding ∷ outer) = (binding.hidden ≡ innermost_slot outer binding.variable) × KeepHidden outer

pub record HasSlots {T : Type 0} (slots : List (Option ℕ)) (bindings : List (Binding T)) : Type 0 where
  pub found : (variable : ℕ) → get_or slots variable None ≡ innermost_slot bindings variable
  pub hidden : KeepHidden bindings
