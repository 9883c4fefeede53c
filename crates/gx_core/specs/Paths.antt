-- Steps from nodes, and what they give in document order (XQuery 1.0, sections 3.2 and 3.2.1).
use Rattle.std.specs.Prelude.{Bool, true, false, List, [], ◌∷◌, map, if◌then◌else◌}
use Rattle.std.specs.List.{list_all, list_any}
use Rattle.gx_types.specs.declared.step.Axis.{Axis}
use Rattle.gx_types.specs.declared.step.Test.{Test}
use Rattle.gx_types.specs.SchemaSet.{SchemaSet}
use Rattle.gx_model.specs.Forest.{Forest, PlainNode}
use Rattle.gx_model.specs.Item.{Item, atom, node, Items}
use Rattle.gx_model.specs.Axes.{on_axis}
use Rattle.gx_model.specs.DocumentOrder.{in_document_order}
use Rattle.gx_core.specs.Outcome.{Outcome, gives, wrong}

-- a step from one node; from anything else it is a type error
abbrev pub stepped : SchemaSet → Axis → Test → Items → Forest → Outcome Items
stepped schemas axis asks (node place ∷ []) forest = gives (map node (on_axis schemas forest place axis asks)) forest
stepped schemas axis asks _ forest = wrong

abbrev pub is_node : Item → Bool
is_node (node place) = true
is_node (atom value) = false

-- the places of the nodes among items
abbrev pub places_of : Items → List PlainNode
places_of [] = []
places_of (node place ∷ items) = place ∷ places_of items
places_of (atom value ∷ items) = places_of items

-- nodes alone; an atomic value among them is a type error
abbrev pub nodes_alone : Items → Forest → Outcome Items
nodes_alone items forest = if list_all is_node items then gives items forest else wrong

-- nodes in document order, each once, and atomic values as they are; both at once are a type error
abbrev pub put_in_order : Items → Forest → Outcome Items
put_in_order items forest =
    if list_all is_node items then gives (map node (in_document_order forest (places_of items))) forest
    else (if list_any is_node items then wrong else gives items forest)
