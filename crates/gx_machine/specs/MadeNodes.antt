-- The node that a constructor makes, if it makes one, as a value.
use Rattle.std.specs.Prelude.{[], ◌∷◌, Option, None, Some}
use Rattle.gx_model.specs.Forest.{Forest}
use Rattle.gx_model.specs.Item.{Items, node}
use Rattle.gx_nodes.specs.Entries.{place_of_number}
use Rattle.gx_store.specs.declared.number.NodeId.{NodeId}

abbrev pub node_items : Forest → Option NodeId → Items
node_items later None = []
node_items later (Some made) = node (place_of_number later made.number) ∷ []
