-- A table of complex types says of each what the documents say.
use Rattle.std.proofs.Common.{◌≡◌, ◌∙◌, ℕ, Bool, false, List, map, slice_get, Option, None, Some, refl, ap}
use Rattle.std.proofs.lemmas.Option.{slice_get-map}
use Rattle.std.specs.Option.{option_map, option_map_or}
use Rattle.std.specs.Prelude.{unwrap_or}
use Rattle.gx_schema_syntax.specs.declared.written.TypeDeclaration.{TypeDeclaration}
use Rattle.gx_schema_syntax.specs.declared.written.TypeReference.{TypeReference}
use Rattle.gx_schema_syntax.specs.declared.written.TypeReference.TheVariants as types
use Rattle.gx_schema_syntax.specs.DocumentTree.{DocumentTree}
use Rattle.gx_schema_components.specs.declared.mention.ComponentKind.TheVariants as kinds
use Rattle.gx_schema_components.specs.DeclaredNames.{types_in}
use Rattle.gx_schema_components.specs.NamesView.{number_in_tables}
use Rattle.gx_schema.specs.declared.attribute_types.ComplexTypes.{ComplexTypes}
use Rattle.gx_schema.specs.AttributeTypes.{complex_attribute_type, complex_from, is_complex_declaration, is_complex_number, is_complex_type}
use Rattle.gx_schema.specs.ComplexTypesView.{is_complex_in_table, is_marked, AreComplexTypes}

marked_number : (declarations : List TypeDeclaration) (number : ℕ) → is_marked (map is_complex_declaration declarations) number ≡ is_complex_number declarations number
marked_number declarations number =
    ap (λ (mark : Option Bool). unwrap_or mark false) (slice_get-map is_complex_declaration declarations number) ∙ mapped (slice_get declarations number)
  where
    mapped : (declaration : Option TypeDeclaration) → unwrap_or (option_map is_complex_declaration declaration) false ≡ option_map_or is_complex_declaration declaration false
    mapped None = refl
    mapped (Some declaration) = refl

at_number : (documents : List DocumentTree) (table : ComplexTypes) → AreComplexTypes documents table → (number : Option ℕ)
    → option_map_or (is_marked table.are_complex.items) number false ≡ option_map_or (is_complex_number (types_in documents)) number false
at_number documents table same None = refl
at_number documents table same (Some number) = ap (λ (marks : List Bool). is_marked marks number) same.marked ∙ marked_number (types_in documents) number

same_complex : (documents : List DocumentTree) (table : ComplexTypes) → AreComplexTypes documents table → (kind : TypeReference) → is_complex_in_table table kind ≡ is_complex_type documents kind
same_complex documents table same (types.Builtin builtin) = refl
same_complex documents table same (types.Declared reference) =
    at_number documents table same (number_in_tables table.numbers kinds.TypeDefinition reference.name)
    ∙ ap (λ (number : Option ℕ). option_map_or (is_complex_number (types_in documents)) number false) (same.numbered.same kinds.TypeDefinition reference.name)
same_complex documents table same (types.Anonymous number) = refl

pub complex_by_table : (documents : List DocumentTree) (table : ComplexTypes) → AreComplexTypes documents table
    → complex_from (is_complex_in_table table) 0 documents ≡ complex_attribute_type documents
complex_by_table documents table same =
    ap (λ (complex : TypeReference → Bool). complex_from complex 0 documents) (λ i kind. same_complex documents table same kind i)
