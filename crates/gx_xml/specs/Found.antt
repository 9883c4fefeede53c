-- What was found at the front of a text.
use Rattle.std.specs.Prelude.{◌≡◌, ℕ, ◌<◌, ◌==◌, List, length, Bool, Option, Some, None, IfSome}
use Rattle.gx_grammar.specs.Words.{Entry, scan_one_of, seen_one_of}
use Rattle.gx_xml.specs.declared.marks.Mark.{Mark}
use Rattle.gx_xml.specs.declared.scan.WordFound.{WordFound}
use Rattle.gx_xml.specs.declared.scan.Stop.{Stop}
use Rattle.gx_xml.specs.declared.scan.Stop.TheVariants as stop
use Rattle.gx_xml.specs.Characters.{spelled}
use Rattle.gx_xml.specs.declared.characters.Characters.{Characters}
use Rattle.gx_xml.specs.Nodes.{Made, mark_value}
use Rattle.gx_xml.specs.Marks.{no_character, begins_markup}

abbrev pub Words : Type 0
Words = List (Entry Made)

-- the characters that may not stand behind a word
abbrev pub stop_characters : Stop → ℕ → Bool
stop_characters stop.Nothing = no_character
stop_characters stop.Markup = begins_markup
stop_characters stop.LetterX = λ c. c == 120

abbrev pub entry : List ℕ → Stop → Mark → Entry Made
entry w s m = record { spelling = record { word = w; test = stop_characters s }; value = mark_value m }

abbrev pub word_read : Option (Mark × Characters) → Option (Made × List ℕ)
word_read None = None
word_read (Some r) = Some (mark_value r.0, spelled r.1)

-- It is the word that stands at the front, if one does.
pub record IsWordFound (es : Words) (text : List ℕ) (found : WordFound) : Type 0 where
  pub word : scan_one_of es text ≡ word_read found.word
  pub seen : found.seen ≡ seen_one_of es text
  pub shorter : IfSome found.word (λ r. length (spelled r.1) < length text)
