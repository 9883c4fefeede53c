-- How the texts of string literals are read.
use Rattle.std.specs.Prelude.{◌≡◌, ◌⊎◌, ℕ, List, [], ◌∷◌, ◌++◌}
use Rattle.gx_grammar.specs.Reading.{State, Reading, repeat}
use Rattle.gx_grammar.specs.Ran.{Standing, Ran, Loses}
use Rattle.gx_parse_grammar.specs.declared.runs.Quote.{Quote}
use Rattle.gx_parse_grammar.specs.Nodes.{Made}
use Rattle.gx_parse_grammar.specs.Basics.{Phrase, at_tokens}
use Rattle.gx_parse_tokens.specs.Reading.{read_in}
use Rattle.gx_parse_grammar.specs.Strings.{texts_in, parts_of, string_part}

-- A part of the grammar was read, whose value stands for the text.
pub record TextRead (A : Phrase) (stands_for : Made → List ℕ) (text : List ℕ) (before after : Standing) : Type 0 where
  pub value : Made
  pub is : stands_for value ≡ text
  pub ran : (source : List ℕ) (n : ℕ) → Ran value before after (read_in source n A)

-- a part of a string, and at most so many
unfoldable pub read_part : List ℕ → ℕ → Quote → State → Reading Made
read_part source n q s = read_in source n (string_part q) s

unfoldable pub read_parts : List ℕ → ℕ → Quote → ℕ → State → Reading Made
read_parts source n q count s = repeat (at_tokens (parts_of q)) (read_part source n q) count s

-- Parts were read, which stand for the text, and further ones may follow.
pub record PartsRead (q : Quote) (text : List ℕ) (total count : ℕ) (before here : Standing) : Type 0 where
  pub front : Made → Made
  pub are : (v : Made) → texts_in (front v) ≡ text ++ texts_in v
  pub ran : (source : List ℕ) (n : ℕ) (v : Made) (after : Standing) → Ran v here after (read_parts source n q count) → Ran (front v) before after (read_parts source n q total)

-- the character was added, or memory did not suffice
abbrev pub Pushes : ℕ → List ℕ → Standing → Standing → Type 0
Pushes c cs before after = ((cs ≡ c ∷ []) × (after ≡ before)) ⊎ Loses before after
