-- Axes (XQuery 1.0, section 3.2.1.1): the nodes of a tree in document order, as far as the way from one node to another, and
-- the test, let them pass.
use Rattle.std.specs.Prelude.{ℕ, Bool, true, false, ◌||◌, ◌&&◌, not, ◌==◌, List, [], ◌∷◌, map, filter, Option, None, Some, is_some, if◌then◌else◌}
use Rattle.std.specs.List.{slice_get}
use Rattle.std.specs.Option.{is_none}
use Rattle.gx_types.specs.declared.step.Axis.{Axis}
use Rattle.gx_types.specs.declared.step.Axis.TheVariants as axes
use Rattle.gx_types.specs.declared.step.Test.{Test}
use Rattle.gx_types.specs.SchemaSet.{SchemaSet}
use Rattle.gx_tree.specs.PlainTree.{PlainTree}
use Rattle.gx_model.specs.Forest.{Forest, PlainNode}
use Rattle.gx_model.specs.Belongs.{shape_of}
use Rattle.gx_model.specs.Location.{Location, all_locations, located, location_of, node_of_tree}
use Rattle.gx_model.specs.NodeTest.{asked, meets}

-- ways

-- the positions that lead down from one path to another, if any do
abbrev pub way_down : List ℕ → List ℕ → Option (List ℕ)
way_down [] to = Some to
way_down (m ∷ from) [] = None
way_down (m ∷ from) (n ∷ to) = if m == n then way_down from to else None

-- a test of the way, if there is one
abbrev pub on_way : (List ℕ → Bool) → Option (List ℕ) → Bool
on_way test None = false
on_way test (Some way) = test way

abbrev pub no_step : List ℕ → Bool
no_step [] = true
no_step (n ∷ way) = false

abbrev pub one_step : List ℕ → Bool
one_step [] = false
one_step (n ∷ []) = true
one_step (m ∷ n ∷ way) = false

abbrev pub some_steps : List ℕ → Bool
some_steps way = not (no_step way)

-- the same attribute, or no attribute both
abbrev pub same_position : Option ℕ → Option ℕ → Bool
same_position None None = true
same_position (Some m) (Some n) = m == n
same_position _ _ = false

-- axes

-- a location below a path, at the end of such a way
abbrev pub leads_down : (List ℕ → Option ℕ → Bool) → List ℕ → Location → Bool
leads_down test path to = on_way (λ way. test way to.attribute) (way_down path to.path)

-- a location above a path, at the beginning of such a way
abbrev pub leads_up : (List ℕ → Bool) → List ℕ → Location → Bool
leads_up test path to = is_none to.attribute && on_way test (way_down to.path path)

abbrev pub to_self : Option ℕ → List ℕ → Option ℕ → Bool
to_self own way attribute = no_step way && same_position own attribute

abbrev pub to_child : List ℕ → Option ℕ → Bool
to_child way attribute = one_step way && is_none attribute

abbrev pub to_descendant : List ℕ → Option ℕ → Bool
to_descendant way attribute = some_steps way && is_none attribute

abbrev pub to_attribute : List ℕ → Option ℕ → Bool
to_attribute way attribute = no_step way && is_some attribute

abbrev pub is_itself : Location → Location → Bool
is_itself from to = leads_down (to_self from.attribute) from.path to

abbrev pub is_descendant : Location → Location → Bool
is_descendant from to = is_none from.attribute && leads_down to_descendant from.path to

abbrev pub is_ancestor : Location → Location → Bool
is_ancestor from to = leads_up (λ way. is_some from.attribute || some_steps way) from.path to

-- the parent of an attribute stands at the attribute's own path; attributes have no children, descendants and attributes
abbrev pub leads_to : Axis → Location → Location → Bool
leads_to axes.Child from to = is_none from.attribute && leads_down to_child from.path to
leads_to axes.Descendant from to = is_descendant from to
leads_to axes.DescendantOrSelf from to = is_itself from to || is_descendant from to
leads_to axes.SelfAxis from to = is_itself from to
leads_to axes.Attribute from to = is_none from.attribute && leads_down to_attribute from.path to
leads_to axes.Parent from to = leads_up (λ way. if is_some from.attribute then no_step way else one_step way) from.path to
leads_to axes.Ancestor from to = is_ancestor from to
leads_to axes.AncestorOrSelf from to = is_itself from to || is_ancestor from to

abbrev pub is_attribute_axis : Axis → Bool
is_attribute_axis axes.Attribute = true
is_attribute_axis _ = false

-- the node there passes a test
abbrev pub passes_there : (PlainTree → Bool) → Option PlainTree → Bool
passes_there test None = false
passes_there test (Some t) = test t

abbrev pub passes : SchemaSet → Axis → Test → PlainTree → Bool
passes schemas axis test t = meets schemas (asked schemas (is_attribute_axis axis) test) (shape_of t)

-- the locations in a tree
abbrev pub locations_on : (leads : Location → Bool) (test : PlainTree → Bool) → PlainTree → List Location
locations_on leads test t = filter (λ to. leads to && passes_there test (located t to)) (all_locations t)

-- the nodes in the tree of a node, if the forest has the tree
abbrev pub nodes_in_tree : Option PlainTree → ℕ → (PlainTree → List Location) → List PlainNode
nodes_in_tree None tree chosen = []
nodes_in_tree (Some t) tree chosen = map (node_of_tree tree) (chosen t)

abbrev pub on_axis : SchemaSet → Forest → PlainNode → Axis → Test → List PlainNode
on_axis schemas forest from axis test =
    nodes_in_tree (slice_get forest from.tree) from.tree (locations_on (leads_to axis (location_of from)) (passes schemas axis test))
