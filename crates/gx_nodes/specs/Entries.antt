-- All nodes of a forest in document order, so that each has a number (XQuery 1.0 and XPath 2.0 Data Model, section 2.4).
use Rattle.std.specs.Prelude.{ℕ, suc, ◌+◌, List, [], ◌∷◌, ◌++◌, length, slice_index_or, Option, None, Some}
use Rattle.gx_tree.specs.declared.attribute.Attribute.{Attribute}
use Rattle.gx_tree.specs.PlainTree.{PlainTree, PlainTrees, document, element, attribute, text, no_trees, a_tree}
use Rattle.gx_model.specs.Forest.{Forest, PlainNode}

-- a node: where it stands, how far before it in the list its parent stands (0 at a root), and the node with all that it holds
pub record NodeEntry : Type 0 where
  pub place : PlainNode
  pub up : ℕ
  pub tree : PlainTree

abbrev pub entry_at : (number : ℕ) (path : List ℕ) (position : Option ℕ) (up : ℕ) → PlainTree → NodeEntry
entry_at number path position up t = record { place = record { tree = number; path = path; attribute = position }; up = up; tree = t }

-- how many nodes stand below a node, attributes among them
abbrev mutual
  pub count_below : PlainTree → ℕ
  count_below (document ts) = count_of_all ts
  count_below (element name kind attributes ts) = length attributes + count_of_all ts
  count_below (attribute a) = 0
  count_below (text t) = 0

  pub count_of_all : PlainTrees → ℕ
  count_of_all no_trees = 0
  count_of_all (a_tree t ts) = suc (count_below t + count_of_all ts)

-- a node, its attributes, and its children in order with all that they hold
abbrev pub attribute_entries : ℕ → List ℕ → (position : ℕ) → List Attribute → List NodeEntry
attribute_entries number path position [] = []
attribute_entries number path position (a ∷ others) =
    entry_at number path (Some position) (suc position) (attribute a) ∷ attribute_entries number path (suc position) others

abbrev mutual
  pub entries_of : ℕ → List ℕ → (up : ℕ) → PlainTree → List NodeEntry
  entries_of number path up (document ts) = entry_at number path None up (document ts) ∷ child_entries number path 0 1 ts
  entries_of number path up (element name kind attributes ts) =
      entry_at number path None up (element name kind attributes ts)
      ∷ (attribute_entries number path 0 attributes ++ child_entries number path 0 (suc (length attributes)) ts)
  entries_of number path up (attribute a) = entry_at number path None up (attribute a) ∷ []
  entries_of number path up (text t) = entry_at number path None up (text t) ∷ []

  pub child_entries : ℕ → List ℕ → (position : ℕ) (up : ℕ) → PlainTrees → List NodeEntry
  child_entries number path position up no_trees = []
  child_entries number path position up (a_tree t ts) =
      entries_of number (path ++ position ∷ []) up t ++ child_entries number path (suc position) (up + suc (count_below t)) ts

-- the trees that are numbered from there on, one behind another
abbrev pub entries_from : ℕ → Forest → List NodeEntry
entries_from number [] = []
entries_from number (t ∷ forest) = entries_of number [] 0 t ++ entries_from (suc number) forest

abbrev pub node_entries : Forest → List NodeEntry
node_entries = entries_from 0

abbrev pub count_in : Forest → ℕ
count_in forest = length (node_entries forest)

-- past all nodes there are roots of trees that the forest has not
abbrev pub beyond : Forest → ℕ → NodeEntry
beyond forest n = entry_at (length forest + n) [] None 0 (text [])

-- the node of a number
abbrev pub entry_in : Forest → ℕ → NodeEntry
entry_in forest n = slice_index_or (node_entries forest) n (beyond forest n)

abbrev pub place_of_number : Forest → ℕ → PlainNode
place_of_number forest n = (entry_in forest n).place
