-- Grammars as data.
use Rattle.std.specs.Prelude.{ℕ, List, Bool}
use Rattle.gx_grammar.specs.Value.{Value}

-- How a reader chooses by the text in front of it: whether it takes the part in question, and what is
-- left of the text behind the furthest character that it saw fit while it decided.
pub record Guard : Type 0 where
  pub takes : List ℕ → Bool
  pub seen : List ℕ → ℕ

-- A grammar as data. The guards are the reader's alone. `made` turns the number of characters that are
-- left at its start, and the value of its part, into a value. What comes behind a `keyed` token depends
-- on the value of that token, as an end tag does on the name of its start tag.
pub data Grammar (Token Production Node : Type 0) : Type 0 where
  token : Token → Grammar Token Production Node
  empty : Grammar Token Production Node
  ◌&◌ : Grammar Token Production Node → Grammar Token Production Node → Grammar Token Production Node
  keyed : Token → (Value Node → Grammar Token Production Node) → Grammar Token Production Node
  choose : Guard → Grammar Token Production Node → Grammar Token Production Node → Grammar Token Production Node
  many : Guard → Grammar Token Production Node → Grammar Token Production Node
  rule : Production → Grammar Token Production Node
  made : (ℕ → Value Node → Value Node) → Grammar Token Production Node → Grammar Token Production Node

infixr 30 ◌&◌
