use Rattle.std.proofs.Common.{◌≡◌, ◌+◌, ◌*◌, take}
use Rattle.gx_tree.specs.PlainTree.{trees_of, tree_size, trees_size}
use Rattle.gx_tree.proofs.tree.+clone.Given as goal

abbrev pub invariant-clone_all-loop-tree : goal.invariant-clone_all-loop-tree
invariant-clone_all-loop-tree l = l.copies.items ≡ take l.tree-index l.trees.items

abbrev pub decreases-TreeClone::clone : goal.decreases-TreeClone::clone
decreases-TreeClone::clone l = 2 * tree_size l.self.now

abbrev pub decreases-clone_all : goal.decreases-clone_all
decreases-clone_all l = 2 * trees_size (trees_of l.trees.now.items) + 1
