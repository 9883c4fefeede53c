-- What a type text reads as.
use Rattle.std.specs.Prelude.{ℕ, suc, List, length, Result}
use Rattle.gx_grammar.specs.Reading.{Refusal}
use Rattle.gx_grammar.specs.Text.{read_text}
use Rattle.gx_typetext.specs.Nodes.{Made}
use Rattle.gx_typetext.specs.Grammar.{type_phrase, type_texts}

-- the pieces of a whole text, or the place of a refusal
unfoldable pub read_pieces : List ℕ → Result Made Refusal
read_pieces text = read_text type_texts (suc (length text)) type_phrase text
