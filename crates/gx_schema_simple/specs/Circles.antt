-- Circles among declarations of which each names at most one other.
use Rattle.std.specs.Prelude.{◌≡◌, ℕ, zero, suc, Bool, false, ◌||◌, ◌==◌, List, length, Option, None, Some, slice_index_or, IsTrue, ◌↔◌}

-- the declaration that one names; what is no declaration names none
abbrev pub named_next : List (Option ℕ) → ℕ → Option ℕ
named_next bases number = slice_index_or bases number None

-- a way of one step or more leads from a declaration to another
pub data ComesTo (bases : List (Option ℕ)) : ℕ → ℕ → Type 0 where
  directly : {from to : ℕ} → named_next bases from ≡ Some to → ComesTo bases from to
  through : {from between to : ℕ} → named_next bases from ≡ Some between → ComesTo bases between to → ComesTo bases from to

-- a declaration stands on a circle: a way leads from it to itself
abbrev pub StandsOnCircle : List (Option ℕ) → ℕ → Type 0
StandsOnCircle bases number = ComesTo bases number number

-- there is a next declaration, and it passes
abbrev pub next_passes : (ℕ → Bool) → Option ℕ → Bool
next_passes passes None = false
next_passes passes (Some next) = passes next

-- a way of so many steps at most leads from a declaration to another
abbrev pub comes_within : List (Option ℕ) → (steps from to : ℕ) → Bool
comes_within bases zero from to = false
comes_within bases (suc steps) from to = next_passes (λ next. (next == to) || comes_within bases steps next to) (named_next bases from)

-- a way of as many steps as there are declarations leads from a declaration to itself
abbrev pub is_circular : List (Option ℕ) → ℕ → Bool
is_circular bases number = comes_within bases (length bases) number number

-- no circle is longer than there are declarations
abbrev pub CirclesAreShort : Type 0
CirclesAreShort = (bases : List (Option ℕ)) (number : ℕ) → IsTrue (is_circular bases number) ↔ StandsOnCircle bases number
