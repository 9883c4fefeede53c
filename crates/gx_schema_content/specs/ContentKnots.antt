-- The contents of groups and types: nothing is seen of those of too many positions.
use Rattle.std.specs.Prelude.{ℕ, List}
use Rattle.gx_types.specs.SequenceType.{SequenceType, never}
use Rattle.gx_schema_components.specs.declared.component.ModelGroup.{ModelGroup}
use Rattle.gx_schema_components.specs.declared.component.TypeComponent.{TypeComponent}
use Rattle.gx_schema_content.specs.declared.effective.Effective.{Effective}
use Rattle.gx_schema_content.specs.GroupContents.{content_that_fits, groups_in}
use Rattle.gx_schema_content.specs.Knots.{meaning_at_ends}
use Rattle.gx_schema_content.specs.PositionKnots.{group_fits, positions_of_group, positions_of_type, type_fits}
use Rattle.gx_schema_content.specs.Sources.{extended_types}
use Rattle.gx_schema_content.specs.TypeContents.{type_content_that_fits, unknown_content}

-- over the positions of groups
abbrev pub fitting_group : (ℕ → ℕ) → (ℕ → SequenceType) → ModelGroup → SequenceType
fitting_group positions contents group = content_that_fits (group_fits positions group) contents group

-- the content of the group of a number
unfoldable pub content_of_group : List ModelGroup → ℕ → SequenceType
content_of_group groups number = meaning_at_ends groups_in (fitting_group (positions_of_group groups)) never groups number

-- over the positions of groups and of types, and the contents of groups
abbrev pub fitting_type : (groups types : ℕ → ℕ) → (ℕ → SequenceType) → (ℕ → Effective) → TypeComponent → Effective
fitting_type groups types contents known component = type_content_that_fits (type_fits groups types component) contents known component

-- the content that the type of a number comes to
unfoldable pub content_of_type : List TypeComponent → List ModelGroup → ℕ → Effective
content_of_type types groups number =
    meaning_at_ends extended_types (fitting_type (positions_of_group groups) (positions_of_type types groups) (content_of_group groups)) unknown_content types number
