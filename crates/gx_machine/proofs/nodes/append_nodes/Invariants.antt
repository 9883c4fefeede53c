use Rattle.std.proofs.Common.{◌≡◌, ◌++◌, map, take}
use Rattle.gx_model.specs.Forest.{Forest}
use Rattle.gx_model.specs.Item.{node}
use Rattle.gx_store.specs.Items.{items_in}
use Rattle.gx_store.specs.Places.{node_places}
use Rattle.gx_machine.proofs.nodes.append_nodes.Given as goal

-- the nodes so far stand behind the items
abbrev pub invariant-loop-node : goal.invariant-loop-node
invariant-loop-node l = (later : Forest) → items_in later l.items.items ≡ items_in later l.fn.items.items ++ map node (node_places later (take l.node-index l.nodes))
