-- Nodes as rows: what a node is apart from its place and from what stands below it.
use Rattle.std.specs.Prelude.{ℕ, ◌-◌, ◌==◌, List, [], ◌∷◌, map, take, drop, length, if◌then◌else◌}
use Rattle.gx_base.specs.declared.name.Name.{Name}
use Rattle.gx_base.specs.declared.type_name.TypeName.{TypeName}
use Rattle.gx_tree.specs.declared.attribute.Attribute.{Attribute}
use Rattle.gx_tree.specs.PlainTree.{PlainTree, document, element, attribute, text, trees_of}
use Rattle.gx_model.specs.Forest.{Forest}
use Rattle.gx_nodes.specs.Entries.{NodeEntry, count_below, entries_of, node_entries}

-- an element has its name, its type and how many attributes it has
pub data PlainForm : Type 0 where
  a_document : PlainForm
  an_element : (name : Name) (kind : TypeName) (attributes : ℕ) → PlainForm
  an_attribute : (a : Attribute) → PlainForm
  a_text : (t : List ℕ) → PlainForm

-- a row: what the node is, how many rows before it its parent stands (0 at a root), and how many rows behind it stand below it
pub record PlainRow : Type 0 where
  pub form : PlainForm
  pub up : ℕ
  pub below : ℕ

abbrev pub form_of_tree : PlainTree → PlainForm
form_of_tree (document ts) = a_document
form_of_tree (element name kind attributes ts) = an_element name kind (length attributes)
form_of_tree (attribute a) = an_attribute a
form_of_tree (text t) = a_text t

abbrev pub row_of : NodeEntry → PlainRow
row_of e = record { form = form_of_tree e.tree; up = e.up; below = count_below e.tree }

-- the rows of a tree whose parent stands so far before it, and of a forest
abbrev pub tree_rows : (up : ℕ) → PlainTree → List PlainRow
tree_rows up t = map row_of (entries_of 0 [] up t)

abbrev pub rows_of : Forest → List PlainRow
rows_of forest = map row_of (node_entries forest)

-- the forest of rows

-- the first trees that have so many nodes, and those behind them
abbrev pub first_trees : ℕ → Forest → Forest
first_trees count [] = []
first_trees count (t ∷ forest) = if count == 0 then [] else t ∷ first_trees (count - 1 - count_below t) forest

abbrev pub last_trees : ℕ → Forest → Forest
last_trees count [] = []
last_trees count (t ∷ forest) = if count == 0 then t ∷ forest else last_trees (count - 1 - count_below t) forest

abbrev pub attributes_among : Forest → List Attribute
attributes_among [] = []
attributes_among (attribute a ∷ forest) = a ∷ attributes_among forest
attributes_among (_ ∷ forest) = attributes_among forest

-- a node with what stands below it: first its attributes, and then its children
abbrev pub tree_from : PlainForm → Forest → PlainTree
tree_from a_document below = document (trees_of below)
tree_from (an_element name kind attributes) below =
    element name kind (attributes_among (take attributes below)) (trees_of (drop attributes below))
tree_from (an_attribute a) below = attribute a
tree_from (a_text t) below = text t

abbrev pub forest_of : List PlainRow → Forest
forest_of [] = []
forest_of (r ∷ rows) = tree_from r.form (first_trees r.below (forest_of rows)) ∷ last_trees r.below (forest_of rows)
