use Rattle.std.proofs.Common.{◌≡◌, ◌++◌, drop, map}
use Rattle.gx_model.specs.Location.{location_of, node_of_tree}
use Rattle.gx_model.specs.Axes.{leads_to, passes}
use Rattle.gx_model.specs.Search.{sought_attributes}
use Rattle.gx_model.proofs.search.search_attributes.Given as goal

-- what was kept, and what is sought in the rest
abbrev pub invariant-loop-position : goal.invariant-loop-position
invariant-loop-position l =
    l.found.items ++ map (node_of_tree l.from.tree) (sought_attributes (leads_to l.axis (location_of l.from)) (passes l.schemas l.axis l.test) l.path l.position (drop l.position l.list))
    ≡ l.fn.found.items ++ map (node_of_tree l.from.tree) (sought_attributes (leads_to l.axis (location_of l.from)) (passes l.schemas l.axis l.test) l.path 0 l.list)
