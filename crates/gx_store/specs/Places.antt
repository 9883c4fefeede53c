-- Where nodes of a store stand, and which of them pass a test (XQuery 1.0, section 3.2.1).
use Rattle.std.specs.Prelude.{Bool, List, map}
use Rattle.gx_types.specs.declared.step.Axis.{Axis}
use Rattle.gx_types.specs.declared.step.Test.{Test}
use Rattle.gx_types.specs.SchemaSet.{SchemaSet}
use Rattle.gx_model.specs.Axes.{passes}
use Rattle.gx_model.specs.Forest.{Forest, PlainNode}
use Rattle.gx_nodes.specs.Entries.{place_of_number}
use Rattle.gx_nodes.specs.Near.{passes_in}
use Rattle.gx_store.specs.declared.number.NodeId.{NodeId}

abbrev pub node_places : Forest → List NodeId → List PlainNode
node_places forest = map (λ m. place_of_number forest m.number)

abbrev pub passes_on : SchemaSet → Forest → Axis → Test → PlainNode → Bool
passes_on schemas forest axis test = passes_in forest (passes schemas axis test)
