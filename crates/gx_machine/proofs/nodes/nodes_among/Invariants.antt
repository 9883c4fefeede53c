use Rattle.std.proofs.Common.{◌≡◌, ◌++◌, drop}
use Rattle.gx_model.specs.Forest.{Forest}
use Rattle.gx_core.specs.Paths.{places_of}
use Rattle.gx_store.specs.Items.{items_in}
use Rattle.gx_store.specs.Places.{node_places}
use Rattle.gx_machine.proofs.nodes.nodes_among.Given as goal

-- the nodes so far, and those among the items that are left
abbrev pub invariant-loop-item : goal.invariant-loop-item
invariant-loop-item l = (later : Forest) → node_places later l.nodes.items ++ places_of (items_in later (drop l.item-index l.items)) ≡ places_of (items_in later l.items)
