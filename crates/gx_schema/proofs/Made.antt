-- What is made of documents keeps to what declarations keep to.
use Rattle.std.proofs.Common.{◌≡◌, ℕ, List, map, sym, subst}
use Rattle.gx_types.specs.SchemaInvariant.{IsSchemaSet}
use Rattle.gx_types.specs.declared.declaration.Declared.{Declared}
use Rattle.gx_types.specs.declared.declaration.GlobalElement.{GlobalElement}
use Rattle.gx_schema_syntax.specs.DocumentTree.{DocumentTree}
use Rattle.gx_schema_components.specs.Components.{globals_of}
use Rattle.gx_schema.specs.SchemaTypes.{schema_element, schemas_written}

pub set_made : (documents : List DocumentTree) (types : List Declared) (elements : List GlobalElement) (targets : List (List ℕ)) →
    types ≡ (schemas_written documents).types → elements ≡ map schema_element (globals_of documents).elements →
    targets ≡ map (λ (document : DocumentTree). document.target) documents → IsSchemaSet (schemas_written documents) →
    IsSchemaSet (record { types = types; elements = elements; targets = targets })
set_made documents types elements targets e f g set =
    subst (λ (t : List Declared). IsSchemaSet (record { types = t; elements = elements; targets = targets })) (sym e)
    (subst (λ (es : List GlobalElement). IsSchemaSet (record { types = (schemas_written documents).types; elements = es; targets = targets })) (sym f)
    (subst (λ (ts : List (List ℕ)). IsSchemaSet (record { types = (schemas_written documents).types; elements = map schema_element (globals_of documents).elements; targets = ts })) (sym g) set))
