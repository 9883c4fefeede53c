-- The positions of a type that may come next and whose item type passes a test.
use Rattle.std.specs.Prelude.{Bool, ◌&&◌, ◌||◌, List, [], ◌∷◌, ◌++◌, drop}
use Rattle.gx_types.specs.declared.item_type.ItemType.{ItemType}
use Rattle.gx_types.specs.SequenceType.{SequenceType, never, nothing, item, both, either, optional, star, plus}
use Rattle.gx_types.specs.TypeRules.{positions_of}
use Rattle.gx_include_positions.specs.Positions.{is_nullable, may_end}

-- behind one of the set, or first where a list of the type may begin here
abbrev pub next_passing : SequenceType → (ItemType → Bool) → (begins : Bool) → List Bool → List Bool
next_passing never test begins set = []
next_passing nothing test begins set = []
next_passing (item kind) test begins set = (begins && test kind) ∷ []
next_passing (both first second) test begins set =
    next_passing first test begins set
    ++ next_passing second test ((begins && is_nullable first) || may_end first set) (drop (positions_of first) set)
next_passing (either first second) test begins set =
    next_passing first test begins set ++ next_passing second test begins (drop (positions_of first) set)
next_passing (optional part) test begins set = next_passing part test begins set
next_passing (star part) test begins set = next_passing part test (begins || may_end part set) set
next_passing (plus part) test begins set = next_passing part test (begins || may_end part set) set
