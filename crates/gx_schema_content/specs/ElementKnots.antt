-- The element particles of groups and types.
use Rattle.std.specs.Prelude.{ℕ, List, []}
use Rattle.gx_schema_components.specs.declared.component.ModelGroup.{ModelGroup}
use Rattle.gx_schema_components.specs.declared.component.TypeComponent.{TypeComponent}
use Rattle.gx_schema_content.specs.declared.elements.ElementParticle.{ElementParticle}
use Rattle.gx_schema_content.specs.Elements.{group_elements, type_elements}
use Rattle.gx_schema_content.specs.GroupContents.{groups_in}
use Rattle.gx_schema_content.specs.Knots.{meaning_at_ends}
use Rattle.gx_schema_content.specs.Sources.{extended_types}

-- the element particles of the group of a number
unfoldable pub elements_of_group : List ModelGroup → ℕ → List ElementParticle
elements_of_group groups number = meaning_at_ends groups_in group_elements [] groups number

-- the element particles of the content of the type of a number, those of its base first
unfoldable pub elements_of_type : List TypeComponent → List ModelGroup → ℕ → List ElementParticle
elements_of_type types groups number = meaning_at_ends extended_types (type_elements (elements_of_group groups)) [] types number
