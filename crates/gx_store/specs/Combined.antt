-- Combinations of sequences of nodes (XQuery 1.0, section 3.3.3).
use Rattle.std.specs.Prelude.{Bool, not, List, ◌++◌, filter}
use Rattle.std.specs.List.{list_any}
use Rattle.gx_model.specs.Forest.{Forest, PlainNode}
use Rattle.gx_model.specs.DocumentOrder.{same_node, in_document_order}

-- a node occurs in a sequence
abbrev pub occurs_in : List PlainNode → PlainNode → Bool
occurs_in nodes n = list_any (same_node n) nodes

-- union: all nodes that occur in either sequence
abbrev pub union_of_nodes : Forest → List PlainNode → List PlainNode → List PlainNode
union_of_nodes forest first second = in_document_order forest (first ++ second)

-- intersect: all nodes that occur in both
abbrev pub intersection_of_nodes : Forest → List PlainNode → List PlainNode → List PlainNode
intersection_of_nodes forest first second = in_document_order forest (filter (occurs_in second) first)

-- except: all nodes that occur in the first and not in the second
abbrev pub difference_of_nodes : Forest → List PlainNode → List PlainNode → List PlainNode
difference_of_nodes forest first second = in_document_order forest (filter (λ n. not (occurs_in second n)) first)
