-- Steps one after another, and one step in their place (XQuery 1.0, section 3.2).
use Rattle.std.specs.Prelude.{◌≡◌, List, flat_map}
use Rattle.gx_types.specs.declared.step.Axis.{Axis}
use Rattle.gx_types.specs.declared.step.Axis.TheVariants as axes
use Rattle.gx_types.specs.declared.step.Test.{Test}
use Rattle.gx_types.specs.declared.step.Test.TheVariants as tests
use Rattle.gx_types.specs.SchemaSet.{SchemaSet}
use Rattle.gx_model.specs.Forest.{Forest, PlainNode}
use Rattle.gx_model.specs.Axes.{on_axis}
use Rattle.gx_model.specs.DocumentOrder.{in_document_order}

-- the nodes on an axis from each of several nodes
abbrev pub on_axis_from_each : SchemaSet → Forest → Axis → Test → List PlainNode → List PlainNode
on_axis_from_each schemas forest axis test nodes = flat_map (λ from. on_axis schemas forest from axis test) nodes

-- all nodes and their descendants
abbrev pub with_descendants : SchemaSet → Forest → List PlainNode → List PlainNode
with_descendants schemas forest nodes = on_axis_from_each schemas forest axes.DescendantOrSelf tests.Node nodes

-- the children of nodes and of their descendants are the descendants of the nodes
pub record ChildrenBelowAreDescendants : Type 0 where
  pub together : (schemas : SchemaSet) (forest : Forest) (test : Test) (nodes : List PlainNode)
      → in_document_order forest (on_axis_from_each schemas forest axes.Child test (with_descendants schemas forest nodes))
      ≡ in_document_order forest (on_axis_from_each schemas forest axes.Descendant test nodes)
  -- also where those come in document order, each once
  pub ordered : (schemas : SchemaSet) (forest : Forest) (test : Test) (nodes : List PlainNode)
      → in_document_order forest (on_axis_from_each schemas forest axes.Child test (in_document_order forest (with_descendants schemas forest nodes)))
      ≡ in_document_order forest (on_axis_from_each schemas forest axes.Descendant test nodes)
