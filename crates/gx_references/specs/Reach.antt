-- How far a search from a declaration has come.
use Rattle.std.specs.Prelude.{◌≡◌, ℕ, ◌+◌, ◌≤◌, Bool, true, false, List, [], ◌∷◌, length, slice_index_or, ◌⊎◌}
use Rattle.std.specs.List.{Contains}
use Rattle.gx_references.specs.References.{named_by}
use Rattle.gx_references.specs.Circles.{refers_within}

-- how many marks stand
abbrev pub count_marked : List Bool → ℕ
count_marked [] = 0
count_marked (false ∷ marks) = count_marked marks
count_marked (true ∷ marks) = count_marked marks + 1

-- a declaration was reached and marked, or is pending; a number of none leads nowhere else
abbrev pub IsAccountedFor : List Bool → List ℕ → ℕ → Type 0
IsAccountedFor marks pending number = (length marks ≤ number) ⊎ (slice_index_or marks number false ≡ true) ⊎ Contains pending number

-- the marked declarations were reached from the start, which is not marked: to each pending one leads a way of one step more than
-- there are marks, and all that the start or a marked one names is found
pub record IsReach {B : Type 0} (references : B → List ℕ) (bodies : List B) (start : ℕ) (marks : List Bool) (pending : List ℕ) : Type 0 where
  pub sized : length marks ≡ length bodies
  pub unmarked : slice_index_or marks start false ≡ false
  pub awaited : (number : ℕ) → Contains pending number → refers_within references bodies (count_marked marks + 1) start number ≡ true
  pub begun : (number : ℕ) → Contains (named_by references bodies start) number → IsAccountedFor marks pending number
  pub followed : (from to : ℕ) → slice_index_or marks from false ≡ true → Contains (named_by references bodies from) to → IsAccountedFor marks pending to
