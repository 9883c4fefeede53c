-- The types and the global elements that schema documents declare (XML Schema 1.0 part 1, sections 3.3 and 3.14).
use Rattle.std.specs.Prelude.{ℕ, suc, List, [], ◌∷◌, map, slice_index_or, None, Some}
use Rattle.gx_base.specs.declared.type_name.Builtin.TheVariants as builtins
use Rattle.gx_base.specs.declared.type_name.TypeName.{TypeName}
use Rattle.gx_base.specs.declared.type_name.TypeName.TheVariants as names
use Rattle.gx_facets.specs.declared.restriction.Facets.{Facets}
use Rattle.gx_types.specs.SchemaSet.{SchemaSet}
use Rattle.gx_types.specs.declared.declaration.AttributeUse.{AttributeUse}
use Rattle.gx_types.specs.declared.declaration.Content.{Content}
use Rattle.gx_types.specs.declared.declaration.Content.TheVariants as contents
use Rattle.gx_types.specs.declared.declaration.Declared.{Declared}
use Rattle.gx_types.specs.declared.declaration.GlobalElement.{GlobalElement}
use Rattle.gx_schema_syntax.specs.DocumentTree.{DocumentTree}
use Rattle.gx_schema_components.specs.declared.component.Base.{Base}
use Rattle.gx_schema_components.specs.declared.component.Base.TheVariants as bases
use Rattle.gx_schema_components.specs.declared.component.Declaration.{Declaration}
use Rattle.gx_schema_components.specs.Components.{globals_of}
use Rattle.gx_schema_components.specs.DeclaredNames.{type_names_in}
use Rattle.gx_schema_content.specs.declared.effective.Effective.{Effective}
use Rattle.gx_schema_content.specs.ContentKnots.{content_of_type}
use Rattle.gx_schema_content.specs.MixedContents.{model_of}
use Rattle.gx_schema_attributes.specs.TypeUses.{uses_of_type}
use Rattle.gx_schema_simple.specs.declared.type_form.TypeForm.{TypeForm}
use Rattle.gx_schema_simple.specs.declared.type_form.TypeForm.TheVariants as forms
use Rattle.gx_schema_simple.specs.declared.variety.TypeVariety.{TypeVariety}
use Rattle.gx_schema_simple.specs.declared.variety.TypeVariety.TheVariants.{Hidden, NoValues, Atomic, List as ListOf}
use Rattle.gx_schema_simple.specs.Meanings.{own_facets_over}
use Rattle.gx_schema_simple.specs.Varieties.{variety_of}
use Rattle.gx_schema.specs.SeenComponents.{SeenComponents, seen_components, type_components}
use Rattle.gx_schema.specs.SimpleBases.{simple_base}
use Rattle.gx_schema.specs.TypeForms.{forms_of}

-- the name of a base or an item type, over the names of declared types
abbrev pub base_name : List TypeName → Base → TypeName
base_name declared (bases.Builtin builtin) = names.Builtin builtin
base_name declared (bases.Declared number) = slice_index_or declared number (names.Builtin builtins.AnyType)

-- a restriction and an extension are derived from their base, and a list from xs:anySimpleType
abbrev pub derived_from_name : List TypeName → TypeForm → TypeName
derived_from_name declared (forms.Restriction place base facets) = base_name declared base
derived_from_name declared (forms.List place item) = names.Builtin builtins.AnySimple
derived_from_name declared (forms.SimpleContent base facets) = base_name declared base
derived_from_name declared (forms.ComplexContent None) = names.Builtin builtins.AnyType
derived_from_name declared (forms.ComplexContent (Some base)) = base_name declared base

-- a simple type holds lists, or else single values, with facets of its own
abbrev pub simple_content : List TypeName → TypeVariety → Facets → Content
simple_content declared (ListOf item) facets = contents.List (base_name declared item) facets
simple_content declared (Atomic bottom) facets = contents.Atomic facets
simple_content declared NoValues facets = contents.Atomic facets
simple_content declared Hidden facets = contents.Atomic facets

abbrev pub declared_complex : Effective → Content
declared_complex effective = contents.Complex effective.mixed (model_of effective.mixed effective.content)

-- what types mean beside their forms, by number: the varieties of their values, their contents and their attributes
pub record TypeMeanings : Type 0 where
  pub variety : ℕ → TypeVariety
  pub content : ℕ → Effective
  pub uses : ℕ → List AttributeUse

-- what a type of a form holds
abbrev pub content_declared : List TypeName → List TypeForm → TypeMeanings → (number : ℕ) → TypeForm → Content
content_declared declared types meanings number (forms.Restriction place base facets) =
    simple_content declared (meanings.variety number) (own_facets_over meanings.variety (forms.Restriction place base facets))
content_declared declared types meanings number (forms.List place item) =
    simple_content declared (meanings.variety number) (own_facets_over meanings.variety (forms.List place item))
content_declared declared types meanings number (forms.SimpleContent base facets) =
    contents.Simple (base_name declared (simple_base types base)) (own_facets_over meanings.variety (forms.SimpleContent base facets))
content_declared declared types meanings number (forms.ComplexContent base) = declared_complex (meanings.content number)

abbrev pub schema_type : List TypeName → List TypeForm → TypeMeanings → (number : ℕ) → TypeName → TypeForm → Declared
schema_type declared types meanings number name form = record {
  name = name;
  base = derived_from_name declared form;
  content = content_declared declared types meanings number form;
  attributes = meanings.uses number;
}

-- types with their names, of which the first has this number among all types
abbrev pub schema_types_from : List TypeName → List TypeForm → TypeMeanings → (number : ℕ) → List TypeName → List TypeForm → List Declared
schema_types_from declared types meanings number (name ∷ names) (form ∷ forms) =
    schema_type declared types meanings number name form ∷ schema_types_from declared types meanings (suc number) names forms
schema_types_from declared types meanings number _ _ = []

abbrev pub schema_types : List TypeName → List TypeForm → TypeMeanings → List Declared
schema_types declared types meanings = schema_types_from declared types meanings 0 declared types

abbrev pub schema_element : Declaration → GlobalElement
schema_element declaration = record { name = declaration.name; kind = declaration.kind }

-- ---- of documents

abbrev pub type_forms : List DocumentTree → List TypeForm
type_forms documents = forms_of (type_components documents)

abbrev pub meanings_seen : List TypeForm → SeenComponents → TypeMeanings
meanings_seen types seen = record {
  variety = variety_of types;
  content = content_of_type seen.types seen.groups;
  uses = uses_of_type seen.types seen.attribute_groups;
}

abbrev pub schemas_written : List DocumentTree → SchemaSet
schemas_written documents = record {
  types = schema_types (type_names_in documents) (type_forms documents) (meanings_seen (type_forms documents) (seen_components documents));
  elements = map schema_element (globals_of documents).elements;
  targets = map (λ (document : DocumentTree). document.target) documents;
}
