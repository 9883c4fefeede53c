-- When nodes agree apart from their children (Functions and Operators, section 15.3.1).
use Rattle.std.specs.Prelude.{◌≡◌, ℕ, Bool, true, false, ◌&&◌, ◌==◌, List, map, Option, None, Some}
use Rattle.std.specs.List.{slice_get, list_any}
use Rattle.gx_base.specs.Name.{same_name}
use Rattle.gx_base.specs.Text.{same_text}
use Rattle.gx_tree.specs.PlainTree.{PlainTree, document, element, attribute, text}
use Rattle.gx_model.specs.DeepEqual.{are_equal_attributes, have_equal_attributes}
use Rattle.gx_model.specs.Forest.{Forest, own_attributes}
use Rattle.gx_nodes.specs.Entries.{NodeEntry, count_below, node_entries, entry_in}
use Rattle.gx_store.specs.declared.labels.Label.{Label}
use Rattle.gx_store.specs.declared.number.NodeId.{NodeId}

-- in name, attributes and text
abbrev pub nodes_agree : PlainTree → PlainTree → Bool
nodes_agree (document ts) (document us) = true
nodes_agree (element name kind own ts) (element other beside others us) = same_name name other && have_equal_attributes own others
nodes_agree (attribute a) (attribute b) = are_equal_attributes a b
nodes_agree (text t) (text u) = same_text t u
nodes_agree _ _ = false

-- and with as many nodes below them
abbrev pub trees_agree : PlainTree → PlainTree → Bool
trees_agree t u = (count_below t == count_below u) && nodes_agree t u

abbrev pub entries_agree : Option NodeEntry → Option NodeEntry → Bool
entries_agree (Some e) (Some f) = trees_agree e.tree f.tree
entries_agree _ _ = false

-- nodes by their numbers; what is not there agrees with nothing
abbrev pub numbers_agree : Forest → ℕ → ℕ → Bool
numbers_agree forest n m = entries_agree (slice_get (node_entries forest) n) (slice_get (node_entries forest) m)

-- two labels with one name, whatever their prefixes are
abbrev pub are_called_alike : Option Label → Option Label → Bool
are_called_alike (Some l) (Some k) = same_name l.name k.name
are_called_alike _ _ = false

-- two attributes with one name and one value
abbrev pub are_attributes_alike : PlainTree → PlainTree → Bool
are_attributes_alike (attribute a) (attribute b) = are_equal_attributes a b
are_attributes_alike _ _ = false

-- the attributes of the node of a number
abbrev pub attribute_trees : Forest → ℕ → List PlainTree
attribute_trees forest n = map attribute (own_attributes (entry_in forest n).tree)

-- a node is one of them: what is true of it is true of one of them
abbrev pub IsAttributeAt : Forest → ℕ → NodeId → Type 0
IsAttributeAt forest n m = (p : PlainTree → Bool) → p (entry_in forest m.number).tree ≡ true → list_any p (attribute_trees forest n) ≡ true
