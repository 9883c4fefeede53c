use Rattle.std.proofs.Common.{◌≡◌, ◌+◌, ◌*◌, take}
use Rattle.gx_tree.specs.PlainTree.{trees_of, tree_size, trees_size}
use Rattle.gx_tree.proofs.same.+same.Given as goal

abbrev pub invariant-same_all-loop-i : goal.invariant-same_all-loop-i
invariant-same_all-loop-i l = take l.i l.ts.items ≡ take l.i l.us.items

abbrev pub decreases-same : goal.decreases-same
decreases-same l = 2 * tree_size l.a.now

abbrev pub decreases-same_all : goal.decreases-same_all
decreases-same_all l = 2 * trees_size (trees_of l.ts.now.items) + 1
