-- What marks at components say.
use Rattle.std.specs.Prelude.{◌≡◌, ℕ, List}
use Rattle.gx_schema_components.specs.declared.component.AttributeGroup.{AttributeGroup}
use Rattle.gx_schema_components.specs.declared.component.ModelGroup.{ModelGroup}
use Rattle.gx_schema_components.specs.declared.component.TypeComponent.{TypeComponent}
use Rattle.gx_schema_simple.specs.Circles.{is_circular}
use Rattle.gx_schema_simple.specs.Forms.{references_of}
use Rattle.gx_schema_simple.specs.Walk.{has_mark}
use Rattle.gx_schema.specs.declared.seen_components.CircleMarks.{CircleMarks}
use Rattle.gx_schema.specs.SeenComponents.{Circles, is_circular_attribute_group, is_circular_group}
use Rattle.gx_schema.specs.TypeForms.{forms_of}

-- marks stand at what is on circles
pub record AreCircles (components : List TypeComponent) (model_groups : List ModelGroup) (groups_of_attributes : List AttributeGroup) (circles : CircleMarks) : Type 0 where
  pub types : (number : ℕ) → has_mark circles.types.items number ≡ is_circular (references_of (forms_of components)) number
  pub groups : (number : ℕ) → has_mark circles.groups.items number ≡ is_circular_group model_groups number
  pub attribute_groups : (number : ℕ) → has_mark circles.attribute_groups.items number ≡ is_circular_attribute_group groups_of_attributes number

-- what marks say
abbrev pub circles_view : CircleMarks → Circles
circles_view circles = record { types = has_mark circles.types.items; groups = has_mark circles.groups.items; attribute_groups = has_mark circles.attribute_groups.items }
