-- What putting items in order leaves.
use Rattle.std.specs.Prelude.{map, Option, None, Some, Vec}
use Rattle.gx_model.specs.Forest.{Forest}
use Rattle.gx_model.specs.Item.{Items, node}
use Rattle.gx_store.specs.declared.number.NodeId.{NodeId}
use Rattle.gx_store.specs.Places.{node_places}

-- the nodes in order, or the items as they are
abbrev pub ordered_items : {A : Type 0} → Forest → Items → Option (Vec NodeId A) → Items
ordered_items later items None = items
ordered_items later items (Some nodes) = map node (node_places later nodes.items)
