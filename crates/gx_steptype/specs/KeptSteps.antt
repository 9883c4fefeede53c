-- What a step gives from the elements of a type, as it is kept for types that were met before.
use Rattle.std.specs.Prelude.{◌≡◌, None, IfSome}
use Rattle.indexmap.specs.IndexMap.{IndexMap, get}
use Rattle.gx_base.specs.declared.type_name.TypeName.{TypeName}
use Rattle.gx_types.specs.declared.item_type.ItemType.TheVariants.{Element}
use Rattle.gx_types.specs.declared.step.Axis.{Axis}
use Rattle.gx_types.specs.SchemaSet.{SchemaSet}
use Rattle.gx_types.specs.SequenceType.{SequenceType}
use Rattle.gx_types.specs.TypeIndex.{equal_kinds}
use Rattle.gx_model.specs.NodeTest.{KindTest}
use Rattle.gx_steptype.specs.Replaced.{replaced_items}
use Rattle.gx_steptype.specs.StepType.{child_content, item_step}
use Rattle.gx_steptype.specs.TestedType.{tested_item}

abbrev pub tested_children : SchemaSet → KindTest → TypeName → SequenceType
tested_children schemas test kind = replaced_items (tested_item schemas test) (child_content schemas kind)

-- a step from an element of a type
abbrev pub element_step : SchemaSet → Axis → KindTest → TypeName → SequenceType
element_step schemas axis test kind = item_step schemas axis test (Element None kind)

-- a table has for a type what stands for it
abbrev pub IsTableOf : {X S : Type 0} → (TypeName → X) → IndexMap TypeName X S → Type 0
IsTableOf of kept = (kind : TypeName) → IfSome (get equal_kinds kept kind) (λ x. x ≡ of kind)
