-- Where the nodes of a tree stand, and all of them in document order (XQuery 1.0 and XPath 2.0 Data Model, section 2.4).
use Rattle.std.specs.Prelude.{ℕ, suc, List, [], ◌∷◌, ◌++◌, map, Option, None, Some}
use Rattle.gx_tree.specs.declared.attribute.Attribute.{Attribute}
use Rattle.gx_tree.specs.PlainTree.{PlainTree, PlainTrees, document, element, attribute, text, no_trees, a_tree}
use Rattle.gx_model.specs.Forest.{PlainNode, then_found, tree_at, attribute_at}

-- the positions that lead to a node from the root, and the position of an attribute, each counted from 0
pub record Location : Type 0 where
  pub path : List ℕ
  pub attribute : Option ℕ

-- that of a node that is no attribute
abbrev pub along : List ℕ → Location
along path = record { path = path; attribute = None }

-- that of an attribute of the root
abbrev pub root_attribute : ℕ → Location
root_attribute position = record { path = []; attribute = Some position }

-- a location in a child is one in the tree
abbrev pub in_child : ℕ → Location → Location
in_child position location = record { path = position ∷ location.path; attribute = location.attribute }

-- all nodes: a node comes before its attributes, these before its children, and these in order with all that they hold
abbrev pub attribute_locations : ℕ → List Attribute → List Location
attribute_locations position [] = []
attribute_locations position (a ∷ others) = root_attribute position ∷ attribute_locations (suc position) others

abbrev mutual
  pub all_locations : PlainTree → List Location
  all_locations (document ts) = along [] ∷ child_locations 0 ts
  all_locations (element name kind attributes ts) = along [] ∷ (attribute_locations 0 attributes ++ child_locations 0 ts)
  all_locations (attribute a) = along [] ∷ []
  all_locations (text t) = along [] ∷ []

  pub child_locations : ℕ → PlainTrees → List Location
  child_locations position no_trees = []
  child_locations position (a_tree t ts) = map (in_child position) (all_locations t) ++ child_locations (suc position) ts

-- the tree of the node at a location
abbrev pub located : PlainTree → Location → Option PlainTree
located t location = then_found (tree_at t location.path) (attribute_at location.attribute)

-- nodes of the tree of a number

abbrev pub location_of : PlainNode → Location
location_of node = record { path = node.path; attribute = node.attribute }

abbrev pub node_of_tree : ℕ → Location → PlainNode
node_of_tree tree location = record { tree = tree; path = location.path; attribute = location.attribute }
