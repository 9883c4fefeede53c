-- A set of the start and the positions of a type, as flags: the start first, then the positions in the order of the text.
use Rattle.std.specs.Prelude.{ℕ, Bool, true, false, ◌&&◌, ◌||◌, List, [], ◌∷◌, ◌++◌, drop, slice_index_or, replicate}
use Rattle.gx_types.specs.declared.item_type.ItemType.{ItemType}
use Rattle.gx_types.specs.SequenceType.{SequenceType}
use Rattle.gx_include_positions.specs.Positions.{is_nullable, may_end, next_of, tests_of, both_set}

-- the set of one number alone
abbrev pub single : ℕ → List Bool
single place = replicate place false ++ true ∷ []

-- the start is in a set
abbrev pub has_start : List Bool → Bool
has_start set = slice_index_or set 0 false

-- the positions that may come next behind a set
abbrev pub all_next : SequenceType → List Bool → List Bool
all_next t set = false ∷ next_of t (has_start set) (drop 1 set)

-- the positions whose item type passes a test
abbrev pub all_tests : SequenceType → (ItemType → Bool) → List Bool
all_tests t test = false ∷ tests_of t test

-- the positions behind a set whose item type passes a test
abbrev pub step_over : SequenceType → (ItemType → Bool) → List Bool → List Bool
step_over t test set = both_set (all_next t set) (all_tests t test)

-- a list of the type may end at a member of a set
abbrev pub is_end : SequenceType → List Bool → Bool
is_end t set = (has_start set && is_nullable t) || may_end t (drop 1 set)
