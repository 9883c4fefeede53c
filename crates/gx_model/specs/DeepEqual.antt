-- When nodes are deep-equal (Functions and Operators, section 15.3.1): names, attributes and texts count, annotations and prefixes do not.
use Rattle.std.specs.Prelude.{Bool, true, false, ◌&&◌, ◌==◌, List, length, Option, None, Some}
use Rattle.std.specs.List.{list_all, list_any}
use Rattle.gx_base.specs.Name.{same_name}
use Rattle.gx_base.specs.Text.{same_text}
use Rattle.gx_tree.specs.declared.attribute.Attribute.{Attribute}
use Rattle.gx_tree.specs.PlainTree.{PlainTree, PlainTrees, document, element, attribute, text, no_trees, a_tree}
use Rattle.gx_model.specs.Forest.{Forest, PlainNode, node_in}

-- attributes of one name and one value
abbrev pub are_equal_attributes : Attribute → Attribute → Bool
are_equal_attributes a b = same_name a.name b.name && same_text a.value b.value

-- as many attributes, each of which the other element has as well
abbrev pub have_equal_attributes : List Attribute → List Attribute → Bool
have_equal_attributes own others = (length own == length others) && list_all (λ a. list_any (are_equal_attributes a) others) own

abbrev mutual
  pub are_equal_trees : PlainTree → PlainTree → Bool
  are_equal_trees (document ts) (document us) = have_equal_children ts us
  are_equal_trees (element name kind attributes ts) (element other own others us) =
      same_name name other && have_equal_attributes attributes others && have_equal_children ts us
  are_equal_trees (attribute a) (attribute b) = are_equal_attributes a b
  are_equal_trees (text t) (text u) = same_text t u
  are_equal_trees _ _ = false

  -- one by one, and as many
  pub have_equal_children : PlainTrees → PlainTrees → Bool
  have_equal_children no_trees no_trees = true
  have_equal_children (a_tree t ts) (a_tree u us) = are_equal_trees t u && have_equal_children ts us
  have_equal_children _ _ = false

-- two nodes that are found
abbrev pub are_equal_found : Option PlainTree → Option PlainTree → Bool
are_equal_found (Some t) (Some u) = are_equal_trees t u
are_equal_found _ _ = false

-- two nodes of a forest
abbrev pub are_equal_nodes : Forest → PlainNode → PlainNode → Bool
are_equal_nodes forest place other = are_equal_found (node_in forest place) (node_in forest other)
