-- The runs by which states were found, from the origin of each.
use Rattle.std.specs.Prelude.{◌≡◌, ℕ, ◌+◌, ◌≤◌, ◌<◌, ◌⊎◌, Bool, List, [], ◌∷◌, ◌++◌, length, slice_index_or, Option, None, Some}
use Rattle.gx_include.specs.declared.walk.Origin.{Origin}

-- the first state was found by the run of no letter, and each other one from an earlier one by one letter more
pub record AreRuns (origins : List Origin) (runs : List (List ℕ)) : Type 0 where
  pub count : length runs ≡ length origins + 1
  pub first : slice_index_or runs 0 [] ≡ []
  pub longer : (i : ℕ) (origin : Origin) → i < length origins → slice_index_or origins i origin ≡ origin
      → (origin.from ≤ i) × (slice_index_or runs (i + 1) [] ≡ origin.letter ∷ slice_index_or runs origin.from [])

-- a pair went last with its origin, or stood there and nothing changed
abbrev pub IsNoted : (pairs : List (ℕ × List Bool)) → (origins : List Origin) → ℕ × List Bool → Origin → List (ℕ × List Bool) → List Origin → Type 0
IsNoted pairs origins pair origin pairs2 origins2 =
    ((pairs2 ≡ pairs ++ pair ∷ []) × (origins2 ≡ origins ++ origin ∷ []))
    ⊎ ((pairs2 ≡ pairs) × (origins2 ≡ origins) × ((i : ℕ) × (i < length pairs) × (slice_index_or pairs i pair ≡ pair)))

-- the same where a pair was found, and nothing changed where none was
abbrev pub IsNotedIfFound : List (ℕ × List Bool) → List Origin → Option (ℕ × List Bool) → Origin → List (ℕ × List Bool) → List Origin → Type 0
IsNotedIfFound pairs origins None origin pairs2 origins2 = (pairs2 ≡ pairs) × (origins2 ≡ origins)
IsNotedIfFound pairs origins (Some pair) origin pairs2 origins2 = IsNoted pairs origins pair origin pairs2 origins2
