-- Which types had their children put among the item types of descendants.
use Rattle.std.specs.Prelude.{List}
use Rattle.std.specs.List.{AllByRecursion}
use Rattle.gx_base.specs.declared.type_name.TypeName.{TypeName}
use Rattle.gx_closure.specs.Closure.{AreAmong}
use Rattle.gx_types.specs.declared.item_type.ItemType.{ItemType}
use Rattle.gx_types.specs.SameItemType.{same_item_type}
use Rattle.gx_types.specs.SchemaSet.{SchemaSet}
use Rattle.gx_types.specs.Prime.{items_of}
use Rattle.gx_steptype.specs.StepType.{child_content}

-- the item types of the children of the elements of each of these types are found
abbrev pub ArePut : SchemaSet → (asked : List TypeName) → (found : List ItemType) → Type 0
ArePut schemas asked found = AllByRecursion (λ kind. AreAmong same_item_type found (items_of (child_content schemas kind))) asked
