-- What the bodies of declarations stand for of which outlines are seen.
use Rattle.std.specs.Prelude.{ℕ}
use Rattle.gx_references.specs.Known.{known}
use Rattle.gx_schema_components.specs.declared.component.ModelGroup.{ModelGroup}
use Rattle.gx_schema_components.specs.declared.component.TypeComponent.{TypeComponent}
use Rattle.gx_schema_content.specs.declared.group_outlines.OutlinedGroup.{OutlinedGroup}
use Rattle.gx_schema_content.specs.declared.outline.Outline.{Outline}
use Rattle.gx_schema_content.specs.declared.outline.Outline.TheVariants.{Never}
use Rattle.gx_schema_content.specs.declared.type_outlines.OutlinedType.{OutlinedType}

abbrev pub group_outlined : OutlinedGroup → ModelGroup
group_outlined body = body.group.now

-- a type, over the outlines of groups
pub record TypeOverOutlines : Type 0 where
  pub groups : ℕ → Outline
  pub component : TypeComponent

abbrev pub type_outlined : OutlinedType → TypeOverOutlines
type_outlined body = record { groups = known Never body.groups.now; component = body.component.now }

abbrev pub outlined_over : (ℕ → Outline) → TypeComponent → TypeOverOutlines
outlined_over groups component = record { groups = groups; component = component }
