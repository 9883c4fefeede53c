-- What types of steps and of typed values promise (Formal Semantics, sections 7.2.3 and 8.2).
use Rattle.std.specs.Prelude.{◌≡◌, true, [], ◌∷◌, map, Some}
use Rattle.gx_closure.specs.Closure.{IsLeastClosed}
use Rattle.gx_types.specs.declared.item_type.ItemType.{ItemType}
use Rattle.gx_types.specs.declared.step.Axis.{Axis}
use Rattle.gx_types.specs.declared.step.Test.{Test}
use Rattle.gx_types.specs.SameItemType.{same_item_type}
use Rattle.gx_types.specs.SchemaSet.{SchemaSet}
use Rattle.gx_types.specs.SchemaInvariant.{IsSchemaSet}
use Rattle.gx_types.specs.SequenceType.{SequenceType}
use Rattle.gx_model.specs.Forest.{Forest, PlainNode}
use Rattle.gx_model.specs.Honest.{IsHonest}
use Rattle.gx_model.specs.Item.{node, Items}
use Rattle.gx_model.specs.Belongs.{Belongs}
use Rattle.gx_model.specs.Axes.{on_axis}
use Rattle.gx_model.specs.Atomization.{atomized}
use Rattle.gx_steptype.specs.StepType.{child_kinds, grandchild_kinds, descendant_kinds, parent_kinds, ancestor_kinds, step_type}
use Rattle.gx_steptype.specs.DataType.{has_data, type_of_data}

-- the item types of descendants are the least list that holds those of the children and is closed under the children of elements
abbrev pub DescendantKindsAreLeast : Type 0
DescendantKindsAreLeast =
    (schemas : SchemaSet) (kind : ItemType) → IsLeastClosed same_item_type (grandchild_kinds schemas) (child_kinds schemas kind) (descendant_kinds schemas kind)

-- those of ancestors, the least that holds those of the parent and is closed under parents
abbrev pub AncestorKindsAreLeast : Type 0
AncestorKindsAreLeast = (kind : ItemType) → IsLeastClosed same_item_type parent_kinds (parent_kinds kind) (ancestor_kinds kind)

-- in an honest forest: from a node of a type, a step gives nodes of the step's type, in document order
abbrev pub StepsKeepTheirTypes : Type 0
StepsKeepTheirTypes =
    (schemas : SchemaSet) (forest : Forest) (from : PlainNode) (axis : Axis) (test : Test) (context : SequenceType)
    → IsSchemaSet schemas → IsHonest schemas forest → Belongs schemas forest (node from ∷ []) context
    → Belongs schemas forest (map node (on_axis schemas forest from axis test)) (step_type schemas axis test context)

-- each item has a typed value, and the values one behind another belong to a type
pub record AtomizedBelongs (schemas : SchemaSet) (forest : Forest) (value : Items) (t : SequenceType) : Type 0 where
  pub values : Items
  pub are : atomized schemas forest value ≡ Some values
  pub belong : Belongs schemas forest values t

-- a value of a type that has typed values has typed values of the type of its data
abbrev pub DataKeepsItsType : Type 0
DataKeepsItsType =
    (schemas : SchemaSet) (forest : Forest) (value : Items) (t : SequenceType)
    → IsSchemaSet schemas → IsHonest schemas forest → has_data schemas t ≡ true → Belongs schemas forest value t
    → AtomizedBelongs schemas forest value (type_of_data schemas t)
