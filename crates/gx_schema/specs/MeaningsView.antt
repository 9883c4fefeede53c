-- What tables say of types.
use Rattle.std.specs.Prelude.{◌≡◌, ℕ, Bool, List, [], slice_index_or}
use Rattle.gx_types.specs.declared.declaration.AttributeUse.{AttributeUse}
use Rattle.gx_references.specs.Known.{known}
use Rattle.gx_schema_content.specs.declared.effective.Effective.{Effective}
use Rattle.gx_schema_content.specs.TypeContents.{unknown_content}
use Rattle.gx_schema_simple.specs.declared.variety.TypeVariety.TheVariants.{Hidden}
use Rattle.gx_schema.specs.declared.schema_types.TypeTables.{TypeTables}
use Rattle.gx_schema.specs.SchemaTypes.{TypeMeanings}
use Rattle.gx_schema.specs.TooLarge.{has_too_many}

abbrev pub effective_at : List Effective → ℕ → Effective
effective_at contents number = slice_index_or contents number unknown_content

abbrev pub uses_in_table : List (List AttributeUse) → ℕ → List AttributeUse
uses_in_table uses number = slice_index_or uses number []

abbrev pub meanings_view : TypeTables → TypeMeanings
meanings_view tables = record {
  variety = known Hidden tables.varieties.items;
  content = effective_at tables.contents.items;
  uses = uses_in_table tables.uses.items;
}

-- two ways to say what types mean are alike
pub record SameMeanings (one other : TypeMeanings) : Type 0 where
  pub variety : (number : ℕ) → one.variety number ≡ other.variety number
  pub content : (number : ℕ) → one.content number ≡ other.content number
  pub uses : (number : ℕ) → one.uses number ≡ other.uses number

-- tables of contents and positions have too many positions at a number
abbrev pub is_past_limit : List Effective → List ℕ → ℕ → Bool
is_past_limit contents positions number = has_too_many (effective_at contents number).mixed (slice_index_or positions number 0)
