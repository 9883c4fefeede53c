-- What declarations mean where all references among them come to an end.
use Rattle.std.specs.Prelude.{◌≡◌, ℕ, zero, suc, ◌<◌, Bool, true, ◌&&◌, List, length, Some, slice_get, if◌then◌else◌}
use Rattle.gx_references.specs.References.{ends, meaning_of}

-- a test holds of all numbers below a count
abbrev pub holds_below : ℕ → (ℕ → Bool) → Bool
holds_below zero test = true
holds_below (suc count) test = holds_below count test && test count

-- the references from all declarations come to an end
abbrev pub all_end : {B : Type 0} → (B → List ℕ) → List B → Bool
all_end references bodies = holds_below (length bodies) (ends references bodies)

-- what a declaration means; where some references come to no end, nothing is seen
abbrev pub meaning_at_ends : {B M : Type 0} → (B → List ℕ) → ((ℕ → M) → B → M) → M → List B → ℕ → M
meaning_at_ends references meant nothing bodies number = if all_end references bodies then meaning_of meant nothing bodies number else nothing

-- a list has at each number below a count what a function says
pub record IsListBelow {M : Type 0} (count : ℕ) (meaning : ℕ → M) (items : List M) : Type 0 where
  pub sized : length items ≡ count
  pub entries : (number : ℕ) → number < count → slice_get items number ≡ Some (meaning number)
