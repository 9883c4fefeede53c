-- Document order (XQuery 1.0 and XPath 2.0 Data Model, section 2.4).
use Rattle.std.specs.Prelude.{ℕ, suc, Bool, true, false, ◌&&◌, nat_lt, ◌==◌, List, [], ◌∷◌, ◌++◌, map, filter, Option, None, Some, if◌then◌else◌}
use Rattle.std.specs.List.{list_any}
use Rattle.std.specs.Cmp.Lexicographic.{pointwise}
use Rattle.gx_model.specs.Forest.{Forest, PlainNode}
use Rattle.gx_model.specs.Location.{all_locations, node_of_tree}
use Rattle.gx_model.specs.Axes.{same_position}

-- a node comes before its attributes
abbrev pub attribute_comes_first : Option ℕ → Option ℕ → Bool
attribute_comes_first None None = false
attribute_comes_first None (Some n) = true
attribute_comes_first (Some m) None = false
attribute_comes_first (Some m) (Some n) = nat_lt m n

-- and these before its children, which come in order with all that they hold
abbrev pub path_comes_first : List ℕ → Option ℕ → List ℕ → Option ℕ → Bool
path_comes_first [] a [] b = attribute_comes_first a b
path_comes_first [] a (n ∷ q) b = true
path_comes_first (m ∷ p) a [] b = false
path_comes_first (m ∷ p) a (n ∷ q) b = if m == n then path_comes_first p a q b else nat_lt m n

-- trees come in the order of their numbers
abbrev pub comes_before : PlainNode → PlainNode → Bool
comes_before a b = if a.tree == b.tree then path_comes_first a.path a.attribute b.path b.attribute else nat_lt a.tree b.tree

-- all nodes of the trees that are numbered from there on, in document order
abbrev pub nodes_from : ℕ → Forest → List PlainNode
nodes_from number [] = []
nodes_from number (t ∷ forest) = map (node_of_tree number) (all_locations t) ++ nodes_from (suc number) forest

abbrev pub same_node : PlainNode → PlainNode → Bool
same_node a b = (a.tree == b.tree) && pointwise ◌==◌ a.path b.path && same_position a.attribute b.attribute

-- nodes in document order, each once: all nodes of the forest that are among them
abbrev pub in_document_order : Forest → List PlainNode → List PlainNode
in_document_order forest nodes = filter (λ n. list_any (same_node n) nodes) (nodes_from 0 forest)

-- whether each node comes before the next
abbrev pub ascends : List PlainNode → Bool
ascends [] = true
ascends (first ∷ []) = true
ascends (first ∷ second ∷ others) = comes_before first second && ascends (second ∷ others)
