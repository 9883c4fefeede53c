use Rattle.std.proofs.Common.{◌≡◌, ◌++◌, ◌*◌, ◌+◌, drop, map}
use Rattle.gx_tree.specs.PlainTree.{trees_of, tree_size, trees_size}
use Rattle.gx_model.specs.Location.{location_of, node_of_tree}
use Rattle.gx_model.specs.Axes.{leads_to, passes}
use Rattle.gx_model.specs.Search.{sought_among}
use Rattle.gx_model.proofs.search.+search.Given as goal

-- the path is the same, and what was kept and what is sought in the rest
abbrev pub invariant-search_children-loop-position : goal.invariant-search_children-loop-position
invariant-search_children-loop-position l = record {
  same : l.path.items ≡ l.fn.path.items;
  left : l.found.items ++ map (node_of_tree l.from.tree) (sought_among (leads_to l.axis (location_of l.from)) (passes l.schemas l.axis l.test) l.fn.path.items l.position (trees_of (drop l.position l.trees)))
      ≡ l.fn.found.items ++ map (node_of_tree l.from.tree) (sought_among (leads_to l.axis (location_of l.from)) (passes l.schemas l.axis l.test) l.fn.path.items 0 (trees_of l.trees));
}

abbrev pub decreases-search_tree : goal.decreases-search_tree
decreases-search_tree l = 2 * tree_size l.tree.now

abbrev pub decreases-search_children : goal.decreases-search_children
decreases-search_children l = 2 * trees_size (trees_of l.trees.now) + 1
