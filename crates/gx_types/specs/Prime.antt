-- The prime type: the choice of a type's item types in the order of their first appearance (Formal Semantics, section 8.4).
use Rattle.std.specs.Prelude.{List, [], ◌∷◌, ◌++◌}
use Rattle.gx_types.specs.declared.item_type.ItemType.{ItemType}
use Rattle.gx_types.specs.SequenceType.{SequenceType, never, nothing, item, both, either, optional, star, plus}
use Rattle.gx_types.specs.Choice.{with_member}

-- a choice with the item types of a type behind its own
abbrev pub with_items : SequenceType → SequenceType → SequenceType
with_items choice never = choice
with_items choice nothing = choice
with_items choice (item kind) = with_member choice (item kind)
with_items choice (both first second) = with_items (with_items choice first) second
with_items choice (either first second) = with_items (with_items choice first) second
with_items choice (optional part) = with_items choice part
with_items choice (star part) = with_items choice part
with_items choice (plus part) = with_items choice part

abbrev pub prime_of : SequenceType → SequenceType
prime_of t = with_items never t

-- the item types of a type, as they stand in it
abbrev pub items_of : SequenceType → List ItemType
items_of never = []
items_of nothing = []
items_of (item kind) = kind ∷ []
items_of (both first second) = items_of first ++ items_of second
items_of (either first second) = items_of first ++ items_of second
items_of (optional part) = items_of part
items_of (star part) = items_of part
items_of (plus part) = items_of part
