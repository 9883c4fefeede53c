use Rattle.std.proofs.Common.{◌≡◌, ◌++◌, ◌+◌, ◌*◌, drop}
use Rattle.gx_tree.specs.PlainTree.{trees_of, tree_size, trees_size}
use Rattle.gx_tree.specs.StringValue.{string_values}
use Rattle.gx_tree.proofs.string_value.+push_texts.Given as goal

-- what was pushed, and what is left to push
abbrev pub invariant-push_all-loop-tree : goal.invariant-push_all-loop-tree
invariant-push_all-loop-tree l =
    l.value ++ string_values (trees_of (drop l.tree-index l.trees.items)) ≡ l.fn.value ++ string_values (trees_of l.trees.items)

abbrev pub decreases-push_texts : goal.decreases-push_texts
decreases-push_texts l = 2 * tree_size l.tree.now

abbrev pub decreases-push_all : goal.decreases-push_all
decreases-push_all l = 2 * trees_size (trees_of l.trees.now.items) + 1
