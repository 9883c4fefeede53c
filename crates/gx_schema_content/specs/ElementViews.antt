-- What the bodies of declarations stand for whose element particles are listed.
use Rattle.std.specs.Prelude.{ℕ, List, []}
use Rattle.gx_references.specs.Known.{known}
use Rattle.gx_schema_components.specs.declared.component.ModelGroup.{ModelGroup}
use Rattle.gx_schema_components.specs.declared.component.TypeComponent.{TypeComponent}
use Rattle.gx_schema_content.specs.declared.element_lists.GroupElements.{GroupElements}
use Rattle.gx_schema_content.specs.declared.element_lists.TypeElements.{TypeElements}
use Rattle.gx_schema_content.specs.declared.elements.ElementParticle.{ElementParticle}

abbrev pub group_listed : GroupElements → ModelGroup
group_listed body = body.group.now

-- a type, over the element particles of groups
pub record ListedType : Type 0 where
  pub groups : ℕ → List ElementParticle
  pub component : TypeComponent

abbrev pub type_listed : TypeElements → ListedType
type_listed body = record { groups = known [] body.groups.now; component = body.component.now }

abbrev pub listed_over : (ℕ → List ElementParticle) → TypeComponent → ListedType
listed_over groups component = record { groups = groups; component = component }
