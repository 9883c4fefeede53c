-- The contents of groups and types, however many positions they have (XML Schema 1.0 part 1, sections 3.4.2 and 3.8.4).
use Rattle.std.specs.Prelude.{ℕ, List}
use Rattle.gx_types.specs.SequenceType.{SequenceType, never}
use Rattle.gx_schema_components.specs.declared.component.ModelGroup.{ModelGroup}
use Rattle.gx_schema_components.specs.declared.component.TypeComponent.{TypeComponent}
use Rattle.gx_schema_content.specs.declared.effective.Effective.{Effective}
use Rattle.gx_schema_content.specs.GroupContents.{group_content, groups_in}
use Rattle.gx_schema_content.specs.Knots.{meaning_at_ends}
use Rattle.gx_schema_content.specs.Sources.{extended_types}
use Rattle.gx_schema_content.specs.TypeContents.{form_content, unknown_content}

-- the content of the group of a number
unfoldable pub whole_content_of_group : List ModelGroup → ℕ → SequenceType
whole_content_of_group groups number = meaning_at_ends groups_in group_content never groups number

-- over the contents of groups and of types
abbrev pub component_content : (ℕ → SequenceType) → (ℕ → Effective) → TypeComponent → Effective
component_content groups types component = form_content groups types component.form

-- the content that the type of a number comes to
unfoldable pub whole_content_of_type : List TypeComponent → List ModelGroup → ℕ → Effective
whole_content_of_type types groups number = meaning_at_ends extended_types (component_content (whole_content_of_group groups)) unknown_content types number
