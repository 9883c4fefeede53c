-- Forests, and the nodes in them (XQuery 1.0 and XPath 2.0 Data Model, section 2.4).
use Rattle.std.specs.Prelude.{ℕ, List, [], ◌∷◌, Option, None, Some}
use Rattle.std.specs.List.{slice_get}
use Rattle.std.specs.Option.{option_map}
use Rattle.gx_tree.specs.declared.attribute.Attribute.{Attribute}
use Rattle.gx_tree.specs.PlainTree.{PlainTree, document, element, attribute, text, list_of}

abbrev pub Forest : Type 0
Forest = List PlainTree

-- the number of its tree, the positions that lead to it from the root, and the position of an attribute, each counted from 0
pub record PlainNode : Type 0 where
  pub tree : ℕ
  pub path : List ℕ
  pub attribute : Option ℕ

-- what is made of what is found, if it is found
abbrev pub then_found : {A B : Type 0} → Option A → (A → Option B) → Option B
then_found None next = None
then_found (Some found) next = next found

abbrev pub children_of : PlainTree → List PlainTree
children_of (document ts) = list_of ts
children_of (element name kind attributes ts) = list_of ts
children_of (attribute a) = []
children_of (text t) = []

abbrev pub own_attributes : PlainTree → List Attribute
own_attributes (element name kind attributes ts) = attributes
own_attributes _ = []

-- the tree of a node that is so far down
abbrev pub tree_at : PlainTree → List ℕ → Option PlainTree
tree_at t [] = Some t
tree_at t (position ∷ path) = then_found (slice_get (children_of t) position) (λ child. tree_at child path)

-- the tree itself, or that of its attribute
abbrev pub attribute_at : Option ℕ → PlainTree → Option PlainTree
attribute_at None t = Some t
attribute_at (Some position) t = option_map attribute (slice_get (own_attributes t) position)

-- the tree of a node, if the forest has the node
abbrev pub node_in : Forest → PlainNode → Option PlainTree
node_in forest node =
    then_found (slice_get forest node.tree) (λ t. then_found (tree_at t node.path) (attribute_at node.attribute))
