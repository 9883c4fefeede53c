-- The components of schema documents, where model groups and attribute groups that stand on circles are not looked through.
use Rattle.std.specs.Prelude.{ℕ, suc, Bool, false, List, [], ◌∷◌, ◌++◌, if◌then◌else◌}
use Rattle.gx_schema_syntax.specs.DocumentTree.{DocumentTree}
use Rattle.gx_schema_syntax.specs.declared.role.Compositor.TheVariants.{Sequence}
use Rattle.gx_references.specs.Circles.{is_circular_among}
use Rattle.gx_schema_components.specs.declared.component.AttributeGroup.{AttributeGroup}
use Rattle.gx_schema_components.specs.declared.component.Base.{Base}
use Rattle.gx_schema_components.specs.declared.component.Base.TheVariants.{Builtin, Declared}
use Rattle.gx_schema_components.specs.declared.component.ComplexType.{ComplexType}
use Rattle.gx_schema_components.specs.declared.component.Derivation.{Derivation}
use Rattle.gx_schema_components.specs.declared.component.Derivation.TheVariants as derivations
use Rattle.gx_schema_components.specs.declared.component.DerivedFrom.{DerivedFrom}
use Rattle.gx_schema_components.specs.declared.component.ModelGroup.{ModelGroup}
use Rattle.gx_schema_components.specs.declared.component.TypeComponent.{TypeComponent}
use Rattle.gx_schema_components.specs.declared.component.TypeForm.{TypeForm}
use Rattle.gx_schema_components.specs.declared.component.TypeForm.TheVariants as forms
use Rattle.gx_schema_components.specs.AttributeLists.{attribute_groups_of}
use Rattle.gx_schema_components.specs.Components.{definitions_by, first_inner, globals_of, types_by}
use Rattle.gx_schema_components.specs.DeclaredNames.{declarations_in}
use Rattle.gx_schema_content.specs.GroupContents.{groups_in}
use Rattle.gx_schema_simple.specs.Circles.{is_circular}
use Rattle.gx_schema_simple.specs.Forms.{references_of}
use Rattle.gx_schema.specs.TypeForms.{forms_of}
use Rattle.gx_schema_attributes.specs.GroupUses.{groups_named}

-- ---- as they are written

abbrev pub type_components : List DocumentTree → List TypeComponent
type_components documents = (types_by (globals_of documents) (first_inner documents) documents).placed

abbrev pub model_groups : List DocumentTree → List ModelGroup
model_groups documents = (definitions_by (globals_of documents) (first_inner documents) documents).placed ++ (types_by (globals_of documents) (first_inner documents) documents).groups

abbrev pub attribute_groups : List DocumentTree → List AttributeGroup
attribute_groups documents = attribute_groups_of (globals_of documents) (declarations_in documents)

-- ---- circles

abbrev pub is_circular_group : List ModelGroup → ℕ → Bool
is_circular_group groups number = is_circular_among groups_in groups number

abbrev pub attribute_groups_in_group : AttributeGroup → List ℕ
attribute_groups_in_group group = groups_named group.parts

abbrev pub is_circular_attribute_group : List AttributeGroup → ℕ → Bool
is_circular_attribute_group groups number = is_circular_among attribute_groups_in_group groups number

-- ---- what is seen

abbrev pub seen_group : (is_circular : Bool) → ModelGroup → ModelGroup
seen_group is_circular group = if is_circular then record { compositor = Sequence; particles = [] } else group

abbrev pub seen_groups_from : (is_circular : ℕ → Bool) → (number : ℕ) → List ModelGroup → List ModelGroup
seen_groups_from is_circular number [] = []
seen_groups_from is_circular number (group ∷ groups) = seen_group (is_circular number) group ∷ seen_groups_from is_circular (suc number) groups

abbrev pub seen_attribute_group : (is_circular : Bool) → AttributeGroup → AttributeGroup
seen_attribute_group is_circular group = if is_circular then record { place = group.place; name = group.name; parts = [] } else group

abbrev pub seen_attribute_groups_from : (is_circular : ℕ → Bool) → (number : ℕ) → List AttributeGroup → List AttributeGroup
seen_attribute_groups_from is_circular number [] = []
seen_attribute_groups_from is_circular number (group ∷ groups) = seen_attribute_group (is_circular number) group ∷ seen_attribute_groups_from is_circular (suc number) groups

-- ---- types, where a base that stands on a circle is not looked through

abbrev pub is_circular_base : (is_circular : ℕ → Bool) → Base → Bool
is_circular_base is_circular (Builtin builtin) = false
is_circular_base is_circular (Declared number) = is_circular number

abbrev pub seen_from : (is_circular : ℕ → Bool) → DerivedFrom → Derivation → Derivation
seen_from is_circular from derivation = if is_circular_base is_circular from.base then derivations.Own else derivation

abbrev pub seen_derivation : (is_circular : ℕ → Bool) → Derivation → Derivation
seen_derivation is_circular derivations.Own = derivations.Own
seen_derivation is_circular (derivations.Extends from) = seen_from is_circular from (derivations.Extends from)
seen_derivation is_circular (derivations.Restricts from) = seen_from is_circular from (derivations.Restricts from)

abbrev pub seen_complex_type : (is_circular : ℕ → Bool) → ComplexType → ComplexType
seen_complex_type is_circular definition = record {
  mixed = definition.mixed;
  derivation = seen_derivation is_circular definition.derivation;
  facets = definition.facets;
  content = definition.content;
  attributes = definition.attributes;
}

abbrev pub seen_form : (is_circular : ℕ → Bool) → TypeForm → TypeForm
seen_form is_circular (forms.Simple definition) = forms.Simple definition
seen_form is_circular (forms.Complex definition) = forms.Complex (seen_complex_type is_circular definition)

abbrev pub seen_type : (is_circular : ℕ → Bool) → TypeComponent → TypeComponent
seen_type is_circular component = record { place = component.place; name = component.name; form = seen_form is_circular component.form }

abbrev pub seen_types : (is_circular : ℕ → Bool) → List TypeComponent → List TypeComponent
seen_types is_circular [] = []
seen_types is_circular (component ∷ types) = seen_type is_circular component ∷ seen_types is_circular types

-- ---- all of documents

pub record SeenComponents : Type 0 where
  pub types : List TypeComponent
  pub groups : List ModelGroup
  pub attribute_groups : List AttributeGroup

-- which declarations stand on circles
pub record Circles : Type 0 where
  pub types : ℕ → Bool
  pub groups : ℕ → Bool
  pub attribute_groups : ℕ → Bool

abbrev pub circles_among : List TypeComponent → List ModelGroup → List AttributeGroup → Circles
circles_among types groups attribute_groups = record {
  types = is_circular (references_of (forms_of types));
  groups = is_circular_group groups;
  attribute_groups = is_circular_attribute_group attribute_groups;
}

abbrev pub seen_among : Circles → List TypeComponent → List ModelGroup → List AttributeGroup → SeenComponents
seen_among circles types groups attribute_groups = record {
  types = seen_types circles.types types;
  groups = seen_groups_from circles.groups 0 groups;
  attribute_groups = seen_attribute_groups_from circles.attribute_groups 0 attribute_groups;
}

abbrev pub circles_of : List DocumentTree → Circles
circles_of documents = circles_among (type_components documents) (model_groups documents) (attribute_groups documents)

abbrev pub seen_components : List DocumentTree → SeenComponents
seen_components documents = seen_among (circles_of documents) (type_components documents) (model_groups documents) (attribute_groups documents)
