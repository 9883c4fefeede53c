-- Sets of the positions of a type, as flags in the order of the text, and how they move along a list of shapes (the
-- construction of Glushkov). A position behind the last flag is not in the set.
use Rattle.std.specs.Prelude.{Bool, true, false, ◌&&◌, ◌||◌, List, [], ◌∷◌, ◌++◌, drop, slice_index_or}
use Rattle.gx_types.specs.declared.item_type.ItemType.{ItemType}
use Rattle.gx_types.specs.SequenceType.{SequenceType, never, nothing, item, both, either, optional, star, plus}
use Rattle.gx_types.specs.TypeRules.{positions_of}

-- a type takes the empty list
abbrev pub is_nullable : SequenceType → Bool
is_nullable never = false
is_nullable nothing = true
is_nullable (item kind) = false
is_nullable (both first second) = is_nullable first && is_nullable second
is_nullable (either first second) = is_nullable first || is_nullable second
is_nullable (optional part) = true
is_nullable (star part) = true
is_nullable (plus part) = is_nullable part

-- a list of the type may end at a position of the set
abbrev pub may_end : SequenceType → List Bool → Bool
may_end never set = false
may_end nothing set = false
may_end (item kind) set = slice_index_or set 0 false
may_end (both first second) set = (may_end first set && is_nullable second) || may_end second (drop (positions_of first) set)
may_end (either first second) set = may_end first set || may_end second (drop (positions_of first) set)
may_end (optional part) set = may_end part set
may_end (star part) set = may_end part set
may_end (plus part) set = may_end part set

-- the positions that may come next behind one of the set, or first where a list of the type may begin here
abbrev pub next_of : SequenceType → (begins : Bool) → List Bool → List Bool
next_of never begins set = []
next_of nothing begins set = []
next_of (item kind) begins set = begins ∷ []
next_of (both first second) begins set =
    next_of first begins set ++ next_of second ((begins && is_nullable first) || may_end first set) (drop (positions_of first) set)
next_of (either first second) begins set = next_of first begins set ++ next_of second begins (drop (positions_of first) set)
next_of (optional part) begins set = next_of part begins set
next_of (star part) begins set = next_of part (begins || may_end part set) set
next_of (plus part) begins set = next_of part (begins || may_end part set) set

-- what a test says of each item type that stands in a type, in the order of the text
abbrev pub tests_of : SequenceType → (ItemType → Bool) → List Bool
tests_of never test = []
tests_of nothing test = []
tests_of (item kind) test = test kind ∷ []
tests_of (both first second) test = tests_of first test ++ tests_of second test
tests_of (either first second) test = tests_of first test ++ tests_of second test
tests_of (optional part) test = tests_of part test
tests_of (star part) test = tests_of part test
tests_of (plus part) test = tests_of part test

-- the flags that are set in both lists
abbrev pub both_set : List Bool → List Bool → List Bool
both_set (x ∷ xs) (y ∷ ys) = (x && y) ∷ both_set xs ys
both_set _ _ = []
