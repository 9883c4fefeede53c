-- How a search through the functions that a value calls stands.
use Rattle.std.specs.Prelude.{◌≡◌, ◌⊎◌, Bool, true, List, is_some, Contains}
use Rattle.gx_names_scope.specs.declared.signature.Signature.{Signature}
use Rattle.gx_names_uses.specs.declared.uses.Use.{Use}
use Rattle.gx_names_uses.specs.declared.uses.Use.TheVariants as uses
use Rattle.gx_resolved.specs.NestedMap.{innermost_value}
use Rattle.gx_names_scope.specs.Signature.{same_signature}
use Rattle.gx_names_scope.specs.Environment.{Variables, binder_of}
use Rattle.gx_names_uses.specs.Reaching.{Bodies, uses_in, are_at_hand, are_settled}

-- the functions that were looked at
abbrev pub Settled : Type 0
Settled = List (Signature × Bool)

abbrev pub is_looked_at : Settled → Signature → Bool
is_looked_at settled function = is_some (innermost_value same_signature settled function)

abbrev pub is_met : Variables → Settled → Use → Bool
is_met variables settled (uses.Variable name) = is_some (binder_of variables name)
is_met variables settled (uses.Function function) = is_looked_at settled function

-- what these functions use is in scope or one of them
abbrev pub IsSettled : Variables → Bodies → Settled → Type 0
IsSettled variables bodies settled = (f : Signature) → is_looked_at settled f ≡ true → (u : Use) → Contains (uses_in bodies f) u → is_met variables settled u ≡ true

-- but for what is left to be looked at; and what is left is at hand in any functions in which all is
pub record Searches (variables : Variables) (bodies : Bodies) (calls : List Use) (settled : Settled) (left : List Use) : Type 0 where
  pub in_bodies : (f : Signature) → is_looked_at settled f ≡ true → (u : Use) → Contains (uses_in bodies f) u → (is_met variables settled u ≡ true) ⊎ Contains left u
  pub in_calls : (u : Use) → Contains calls u → (is_met variables settled u ≡ true) ⊎ Contains left u
  pub kept : (functions : List Signature) → are_settled variables bodies functions ≡ true → are_at_hand variables bodies functions calls ≡ true
      → are_at_hand variables bodies functions left ≡ true
