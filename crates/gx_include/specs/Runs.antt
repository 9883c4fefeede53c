-- Runs of letters along the left type, and those that the right type refuses.
use Rattle.std.specs.Prelude.{◌≡◌, ℕ, Bool, true, false, List, [], ◌∷◌, ◌++◌, Option, None, Some, slice_get, slice_index_or, if◌then◌else◌}
use Rattle.gx_types.specs.declared.shape.Shape.{Shape}
use Rattle.gx_types.specs.SchemaSet.{SchemaSet}
use Rattle.gx_types.specs.Takes.{Takes}
use Rattle.gx_types.specs.SequenceType.{SequenceType}
use Rattle.gx_include_letters.specs.declared.letter.Letter.{Letter}
use Rattle.gx_include_positions.specs.Step.{single, all_next, is_end}
use Rattle.gx_include.specs.Walk.{leads_to, NotAfter}

-- the position of a letter, where it may come next
abbrev pub placed : List Bool → Option Letter → Option ℕ
placed next None = None
placed next (Some letter) = if slice_index_or next letter.place false then Some letter.place else None

-- the position that a letter, by its number, leads to from a position or the start
abbrev pub place_step : SequenceType → List Letter → ℕ → ℕ → Option ℕ
place_step a letters place number = placed (all_next a (single place)) (slice_get letters number)

-- a run, as the numbers of its letters with the newest first, goes along positions of a type from the start to a last one
abbrev pub IsComplete : SequenceType → List Letter → List ℕ → Type 0
IsComplete a letters run = (place : ℕ) × (leads_to (place_step a letters) 0 run ≡ Some place) × (is_end a (single place) ≡ true)

abbrev pub shapes_of_letter : Option Letter → List Shape
shapes_of_letter None = []
shapes_of_letter (Some letter) = letter.shape ∷ []

-- the shapes of the letters of a run, the oldest first
abbrev pub shapes_of : List Letter → List ℕ → List Shape
shapes_of letters [] = []
shapes_of letters (number ∷ run) = shapes_of letters run ++ shapes_of_letter (slice_get letters number)

-- a complete run whose shapes the right type does not take
abbrev pub IsRefusedRun : SchemaSet → (a b : SequenceType) → List Letter → List ℕ → Type 0
IsRefusedRun schemas a b letters run = IsComplete a letters run × (Takes schemas b (shapes_of letters run) → ⊥)

-- the first of these runs: the shortest, and among those the least by its letters from the front
abbrev pub IsFirstRefused : SchemaSet → (a b : SequenceType) → List Letter → List ℕ → Type 0
IsFirstRefused schemas a b letters run = IsRefusedRun schemas a b letters run × ((other : List ℕ) → IsRefusedRun schemas a b letters other → NotAfter run other)
