-- What a value of one item is, and the item of a value at a place.
use Rattle.std.specs.Prelude.{ℕ, [], ◌∷◌, take, drop, Option, None, Some}
use Rattle.gx_facets.specs.declared.Atomic.{Atomic}
use Rattle.gx_model.specs.Forest.{PlainNode}
use Rattle.gx_model.specs.Item.{Items, atom, node}

-- the node that it is, if it is one
abbrev pub only_node : Items → Option PlainNode
only_node (node place ∷ []) = Some place
only_node _ = None

-- the atomic value that it is, if it is one
abbrev pub only_atom : Items → Option Atomic
only_atom (atom value ∷ []) = Some value
only_atom _ = None

-- the item at a place, if one was found
abbrev pub item_found : Option ℕ → Items → Items
item_found None items = []
item_found (Some index) items = take 1 (drop index items)
