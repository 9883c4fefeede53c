use Rattle.std.proofs.Common.{◌≡◌, ◌<◌}
use Rattle.gx_model.specs.Forest.{Forest}
use Rattle.gx_model.specs.Growth.{Extends}
use Rattle.gx_nodes.specs.Entries.{count_in, place_of_number}
use Rattle.gx_store.proofs.store.Store.root.Given as goal

-- a node of the store, in the tree of the node that it began with
abbrev pub invariant-loop-parent : goal.invariant-loop-parent
invariant-loop-parent l = record {
  there : l.root.number < count_in l.self;
  same_tree : (later : Forest) → Extends l.self later → (place_of_number later l.root.number).tree ≡ (place_of_number later l.fn.node.number).tree;
}

abbrev pub decreases-loop-parent : goal.decreases-loop-parent
decreases-loop-parent l = l.root.number
