use Rattle.std.proofs.Common.{◌≡◌, List, ◌++◌}
use Rattle.gx_tree.specs.PlainTree.{PlainTree}
use Rattle.gx_build.specs.Making.{content_seen}
use Rattle.gx_build.proofs.content.Content.push_nodes.Given as goal

-- what is left
abbrev pub invariant-loop-tree : goal.invariant-loop-tree
invariant-loop-tree l = (rest : List PlainTree) → content_seen l.self (l.tree-iterator.rest.items ++ rest) ≡ content_seen l.fn.self (l.fn.trees.items ++ rest)
