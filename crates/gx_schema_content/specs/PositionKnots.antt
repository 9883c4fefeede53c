-- The positions of groups and types, each to one more than the limit.
use Rattle.std.specs.Prelude.{ℕ, Bool, List, nat_le}
use Rattle.gx_base.specs.declared.limits.TheConstants.{CONTENT_POSITIONS}
use Rattle.gx_schema_components.specs.declared.component.ModelGroup.{ModelGroup}
use Rattle.gx_schema_components.specs.declared.component.TypeComponent.{TypeComponent}
use Rattle.gx_schema_content.specs.GroupContents.{groups_in}
use Rattle.gx_schema_content.specs.GroupPositions.{counted, group_positions}
use Rattle.gx_schema_content.specs.Knots.{meaning_at_ends}
use Rattle.gx_schema_content.specs.Sources.{extended_types}
use Rattle.gx_schema_content.specs.TypePositions.{component_positions}

abbrev pub counted_group : (ℕ → ℕ) → ModelGroup → ℕ
counted_group groups group = counted (group_positions groups group)

-- the positions of the group of a number
unfoldable pub positions_of_group : List ModelGroup → ℕ → ℕ
positions_of_group groups number = meaning_at_ends groups_in counted_group 0 groups number

abbrev pub counted_type : (ℕ → ℕ) → (ℕ → ℕ) → TypeComponent → ℕ
counted_type groups types component = counted (component_positions groups types component)

-- the positions of the type of a number, texts left out
unfoldable pub positions_of_type : List TypeComponent → List ModelGroup → ℕ → ℕ
positions_of_type types groups number = meaning_at_ends extended_types (counted_type (positions_of_group groups)) 0 types number

-- ---- what has no more positions than a content may have

abbrev pub is_within_limit : ℕ → Bool
is_within_limit positions = nat_le positions CONTENT_POSITIONS

abbrev pub group_fits : (ℕ → ℕ) → ModelGroup → Bool
group_fits groups group = is_within_limit (counted_group groups group)

abbrev pub type_fits : (ℕ → ℕ) → (ℕ → ℕ) → TypeComponent → Bool
type_fits groups types component = is_within_limit (counted_type groups types component)
