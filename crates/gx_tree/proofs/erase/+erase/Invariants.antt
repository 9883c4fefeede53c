use Rattle.std.proofs.Common.{◌≡◌, ◌+◌, ◌*◌, take, map}
use Rattle.gx_tree.specs.PlainTree.{trees_of, tree_size, trees_size}
use Rattle.gx_tree.specs.Erasure.{erased}
use Rattle.gx_tree.proofs.erase.+erase.Given as goal

abbrev pub invariant-erase_all-loop-tree : goal.invariant-erase_all-loop-tree
invariant-erase_all-loop-tree l = l.copies.items ≡ map erased (take l.tree-index l.trees.items)

abbrev pub decreases-erase : goal.decreases-erase
decreases-erase l = 2 * tree_size l.tree.now

abbrev pub decreases-erase_all : goal.decreases-erase_all
decreases-erase_all l = 2 * trees_size (trees_of l.trees.now.items) + 1
