use Rattle.std.proofs.Common.{◌≡◌, take}
use Rattle.gx_nodes.specs.Rows.{attributes_among}
use Rattle.gx_build.proofs.parted.attributes_of.Given as goal

abbrev pub invariant-loop-tree : goal.invariant-loop-tree
invariant-loop-tree l = l.attributes.items ≡ attributes_among (take l.tree-index l.trees)
