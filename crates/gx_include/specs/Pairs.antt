-- Pairs of a position of the left type, or the start, and a set of positions of the right type; letters lead from one to another.
use Rattle.std.specs.Prelude.{ℕ, Bool, false, ◌&&◌, not, List, Option, None, Some, slice_get, slice_index_or, if◌then◌else◌}
use Rattle.gx_types.specs.SequenceType.{SequenceType}
use Rattle.gx_include_letters.specs.declared.letter.Letter.{Letter}
use Rattle.gx_include_positions.specs.Positions.{both_set}
use Rattle.gx_include_positions.specs.Step.{single, all_next, is_end}

-- the pair before the first letter
abbrev pub start_pair : ℕ × List Bool
start_pair = (0, single 0)

-- where a letter leads, from the positions that may come next on either side
abbrev pub moved : (left right : List Bool) → Letter → Option (ℕ × List Bool)
moved left right letter = if slice_index_or left letter.place false then Some (letter.place, both_set right letter.takers) else None

abbrev pub moved_by : (left right : List Bool) → Option Letter → Option (ℕ × List Bool)
moved_by left right None = None
moved_by left right (Some letter) = moved left right letter

-- where a letter leads from a pair, by its number
abbrev pub pair_step : (a b : SequenceType) → List Letter → ℕ × List Bool → ℕ → Option (ℕ × List Bool)
pair_step a b letters pair number = moved_by (all_next a (single pair.0)) (all_next b pair.1) (slice_get letters number)

-- a list may end on the left and not on the right
abbrev pub is_bad : (a b : SequenceType) → ℕ × List Bool → Bool
is_bad a b pair = is_end a (single pair.0) && not (is_end b pair.1)
