-- The alternatives of a choice as a list without later equal ones, and the choice that is made of such a list.
use Rattle.std.specs.Prelude.{List, [], ◌∷◌, ◌++◌, map, fold}
use Rattle.indexmap.specs.IndexSet.{insert_all}
use Rattle.gx_types.specs.SequenceType.{SequenceType, never, nothing, item, both, either, optional, star, plus}
use Rattle.gx_types.specs.SameType.{same_type}
use Rattle.gx_types.specs.Choice.{choice_with}
use Rattle.gx_types.specs.Prime.{items_of}

-- the alternatives that a type adds to a choice: `none` and the empty sequence add none
abbrev pub alternatives_of : SequenceType → List SequenceType
alternatives_of never = []
alternatives_of nothing = []
alternatives_of (item kind) = item kind ∷ []
alternatives_of (both first second) = both first second ∷ []
alternatives_of (either first second) = alternatives_of first ++ alternatives_of second
alternatives_of (optional part) = optional part ∷ []
alternatives_of (star part) = star part ∷ []
alternatives_of (plus part) = plus part ∷ []

-- a list with each type of another behind its own, unless an equal one is there
abbrev pub with_types : (found types : List SequenceType) → List SequenceType
with_types found types = insert_all same_type found types

-- a list with the alternatives of a type behind its own, unless an equal one is there
abbrev pub with_alternatives : List SequenceType → SequenceType → List SequenceType
with_alternatives found t = with_types found (alternatives_of t)

-- the alternatives of all types of a list
abbrev pub alternatives_among : List SequenceType → List SequenceType
alternatives_among types = fold with_alternatives [] types

-- the item types of a type, as types, without later equal ones
abbrev pub item_alternatives : SequenceType → List SequenceType
item_alternatives t = with_types [] (map item (items_of t))

-- the choice with each type of a list as one more alternative
abbrev pub choice_from : List SequenceType → SequenceType
choice_from types = fold choice_with never types
