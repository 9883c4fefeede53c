-- The parent, the ancestors, the attributes, the children and the descendants of a node, by their places (XQuery 1.0 and XPath 2.0 Data
-- Model, section 5).
use Rattle.std.specs.Prelude.{ℕ, suc, Bool, List, [], ◌∷◌, ◌++◌, map, Option, None, Some}
use Rattle.std.specs.Option.{option_map}
use Rattle.gx_tree.specs.declared.attribute.Attribute.{Attribute}
use Rattle.gx_tree.specs.PlainTree.{PlainTree, PlainTrees, document, element, attribute, text, no_trees, a_tree}
use Rattle.gx_model.specs.Forest.{Forest, PlainNode, then_found, node_in, own_attributes}
use Rattle.gx_model.specs.Location.{Location, along, in_child, location_of, node_of_tree}
use Rattle.gx_model.specs.Axes.{passes_there}
use Rattle.gx_model.specs.Stepping.{attribute_along, parent_path}

-- the place above a place, if there is one
abbrev pub place_up : PlainNode → Option PlainNode
place_up place = option_map (λ path. node_of_tree place.tree (along path)) (parent_path (location_of place))

-- what a node has, if the forest has the node
abbrev pub places_where_found : Option PlainTree → (PlainTree → List PlainNode) → List PlainNode
places_where_found None places = []
places_where_found (Some t) places = places t

abbrev pub inner_trees : PlainTree → PlainTrees
inner_trees (document ts) = ts
inner_trees (element name kind attributes ts) = ts
inner_trees (attribute a) = no_trees
inner_trees (text t) = no_trees

abbrev pub child_places : (number : ℕ) (path : List ℕ) (position : ℕ) → PlainTrees → List PlainNode
child_places number path position no_trees = []
child_places number path position (a_tree t ts) = node_of_tree number (along (path ++ position ∷ [])) ∷ child_places number path (suc position) ts

abbrev pub attribute_places : (number : ℕ) (path : List ℕ) (position : ℕ) → List Attribute → List PlainNode
attribute_places number path position [] = []
attribute_places number path position (a ∷ others) = node_of_tree number (attribute_along path position) ∷ attribute_places number path (suc position) others

-- children in order, each with all below it that is no attribute
abbrev mutual
  pub places_below : (number : ℕ) (path : List ℕ) → PlainTree → List PlainNode
  places_below number path (document ts) = places_of_all number path 0 ts
  places_below number path (element name kind attributes ts) = places_of_all number path 0 ts
  places_below number path (attribute a) = []
  places_below number path (text t) = []

  pub places_of_all : (number : ℕ) (path : List ℕ) (position : ℕ) → PlainTrees → List PlainNode
  places_of_all number path position no_trees = []
  places_of_all number path position (a_tree t ts) =
      node_of_tree number (along (path ++ position ∷ [])) ∷ (places_below number (path ++ position ∷ []) t ++ places_of_all number path (suc position) ts)

-- the places on the way down to a node, the root first, and behind them others that are counted from the node
abbrev pub locations_down : (last : List Location) (path : List ℕ) → List Location
locations_down last [] = last
locations_down last (n ∷ path) = along [] ∷ map (in_child n) (locations_down last path)

-- the element of an attribute is above it
abbrev pub own_element : Option ℕ → List Location
own_element None = []
own_element (Some position) = along [] ∷ []

abbrev pub locations_above : Location → List Location
locations_above location = locations_down (own_element location.attribute) location.path

abbrev pub parent_in : Forest → PlainNode → Option PlainNode
parent_in forest place = then_found (node_in forest place) (λ t. place_up place)

abbrev pub attributes_in : Forest → PlainNode → List PlainNode
attributes_in forest place = places_where_found (node_in forest place) (λ t. attribute_places place.tree place.path 0 (own_attributes t))

abbrev pub child_nodes_in : Forest → PlainNode → List PlainNode
child_nodes_in forest place = places_where_found (node_in forest place) (λ t. child_places place.tree place.path 0 (inner_trees t))

abbrev pub descendants_in : Forest → PlainNode → List PlainNode
descendants_in forest place = places_where_found (node_in forest place) (places_below place.tree place.path)

abbrev pub ancestors_in : Forest → PlainNode → List PlainNode
ancestors_in forest place = places_where_found (node_in forest place) (λ t. map (node_of_tree place.tree) (locations_above (location_of place)))

-- a node of the forest passes a test; one that it has not does not
abbrev pub passes_in : Forest → (PlainTree → Bool) → PlainNode → Bool
passes_in forest test place = passes_there test (node_in forest place)
