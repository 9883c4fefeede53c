-- What a row of the code's table of attributes stands for.
use Rattle.std.specs.Prelude.{ℕ, List, map, Option, Some, None}
use Rattle.std.specs.Borrow.{Bor}
use Rattle.gx_schema_syntax.specs.declared.attributes.Form.{Form}
use Rattle.gx_schema_syntax.specs.declared.attributes.AttributeRow.{AttributeRow}

abbrev pub attribute_row : AttributeRow → List ℕ × Form
attribute_row row = (row.name.now, row.form)

abbrev pub words_listed : List (Bor (List ℕ)) → List (List ℕ)
words_listed words = map (λ (word : Bor (List ℕ)). word.now) words

abbrev pub words_needed : Option (Bor (List (Bor (List ℕ)))) → Option (List (List ℕ))
words_needed None = None
words_needed (Some words) = Some (words_listed words.now)
