-- What the code's table of complex types says.
use Rattle.std.specs.Prelude.{◌≡◌, ℕ, Bool, false, List, map, slice_get, unwrap_or}
use Rattle.std.specs.Option.{option_map_or}
use Rattle.gx_schema_syntax.specs.declared.written.TypeReference.{TypeReference}
use Rattle.gx_schema_syntax.specs.declared.written.TypeReference.TheVariants as types
use Rattle.gx_schema_syntax.specs.DocumentTree.{DocumentTree}
use Rattle.gx_schema_components.specs.declared.mention.ComponentKind.TheVariants as kinds
use Rattle.gx_schema_components.specs.DeclaredNames.{types_in}
use Rattle.gx_schema_components.specs.NamesView.{IsNumbering, number_in_tables}
use Rattle.gx_schema.specs.declared.attribute_types.ComplexTypes.{ComplexTypes}
use Rattle.gx_schema.specs.AttributeTypes.{is_complex_declaration}

abbrev pub is_marked : List Bool → (number : ℕ) → Bool
is_marked marks number = unwrap_or (slice_get marks number) false

abbrev pub is_complex_in_table : ComplexTypes → TypeReference → Bool
is_complex_in_table table (types.Builtin builtin) = false
is_complex_in_table table (types.Declared reference) = option_map_or (is_marked table.are_complex.items) (number_in_tables table.numbers kinds.TypeDefinition reference.name) false
is_complex_in_table table (types.Anonymous number) = false

-- names have the numbers that they have in the documents, and at each number a mark says whether the type is complex
pub record AreComplexTypes (documents : List DocumentTree) (table : ComplexTypes) : Type 0 where
  pub numbered : IsNumbering documents table.numbers
  pub marked : table.are_complex.items ≡ map is_complex_declaration (types_in documents)
