use Rattle.std.proofs.Common.{◌≡◌, ◌++◌, ◌+◌, ◌*◌, drop}
use Rattle.gx_tree.specs.PlainTree.{trees_of, tree_size, trees_size}
use Rattle.gx_serial.specs.Markup.{all_spelled}
use Rattle.gx_serial.specs.Marked.{all_marked}
use Rattle.gx_serial.proofs.write.+push_tree.Given as goal

-- what was written, and what is left to write
abbrev pub invariant-push_trees-loop-tree : goal.invariant-push_trees-loop-tree
invariant-push_trees-loop-tree l =
    record {
      text : l.out ++ all_spelled (all_marked l.fn.scope (trees_of (drop l.tree-index l.trees.items)))
          ≡ l.fn.out ++ all_spelled (all_marked l.fn.scope (trees_of l.trees.items));
      scope : l.scope ≡ l.fn.scope;
    }

abbrev pub decreases-push_tree : goal.decreases-push_tree
decreases-push_tree l = 4 * tree_size l.tree.now

abbrev pub decreases-push_element : goal.decreases-push_element
decreases-push_element l = 4 * trees_size (trees_of l.children.now.items) + 3

abbrev pub decreases-push_content : goal.decreases-push_content
decreases-push_content l = 4 * trees_size (trees_of l.children.now.items) + 2

abbrev pub decreases-push_trees : goal.decreases-push_trees
decreases-push_trees l = 4 * trees_size (trees_of l.trees.now.items) + 1
