-- The outlines of groups and types.
use Rattle.std.specs.Prelude.{ℕ, List}
use Rattle.gx_schema_components.specs.declared.component.ModelGroup.{ModelGroup}
use Rattle.gx_schema_components.specs.declared.component.TypeComponent.{TypeComponent}
use Rattle.gx_schema_content.specs.declared.outline.Outline.{Outline}
use Rattle.gx_schema_content.specs.declared.outline.Outline.TheVariants.{Never}
use Rattle.gx_schema_content.specs.declared.outline.TypeOutline.{TypeOutline}
use Rattle.gx_schema_content.specs.GroupContents.{groups_in}
use Rattle.gx_schema_content.specs.Knots.{meaning_at_ends}
use Rattle.gx_schema_content.specs.Outlines.{group_outline, type_outline, unknown_outline}
use Rattle.gx_schema_content.specs.Sources.{extended_types}

-- the outline of the group of a number
unfoldable pub outline_of_group : List ModelGroup → ℕ → Outline
outline_of_group groups number = meaning_at_ends groups_in group_outline Never groups number

-- the outline of the type of a number
unfoldable pub outline_of_type : List TypeComponent → List ModelGroup → ℕ → TypeOutline
outline_of_type types groups number = meaning_at_ends extended_types (type_outline (outline_of_group groups)) unknown_outline types number
