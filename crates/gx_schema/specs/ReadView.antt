-- What is read of documents.
use Rattle.std.specs.Prelude.{◌≡◌, List, length, map}
use Rattle.gx_schema_syntax.specs.DocumentTree.{DocumentTree}
use Rattle.gx_schema_components.specs.Components.{first_inner, globals_of}
use Rattle.gx_schema_components.specs.DeclaredNames.{type_names_in}
use Rattle.gx_schema.specs.declared.import.ReadComponents.{ReadComponents}
use Rattle.gx_schema.specs.SchemaTypes.{schema_element, type_forms}
use Rattle.gx_schema.specs.SeenComponents.{attribute_groups, model_groups, seen_components, type_components}
use Rattle.gx_schema.specs.SeenView.{AreCircles}

pub record IsRead (documents : List DocumentTree) (read : ReadComponents) : Type 0 where
  pub names : read.names.items ≡ type_names_in documents
  pub forms : read.forms.items ≡ type_forms documents
  pub circles : AreCircles (type_components documents) (model_groups documents) (attribute_groups documents) read.circles
  pub seen : read.seen ≡ seen_components documents
  pub elements : read.elements.items ≡ map schema_element (globals_of documents).elements
  pub groups : read.groups ≡ first_inner documents
  pub attribute_groups : read.attribute_groups ≡ length (attribute_groups documents)
