-- How the front of a text is looked at, in direct constructors.
use Rattle.std.specs.Prelude.{◌≡◌, ℕ, List}
use Rattle.gx_grammar.specs.First.{scans_any, seen_any}
use Rattle.gx_parse_tokens.specs.declared.markup.Looked.{Looked}
use Rattle.gx_parse_grammar.specs.Tokens.{Token, scan, seen, faults}

-- It was looked whether one of the tokens stands there, and how far one is opened.
pub record LooksAt (ts : List Token) (x : List ℕ) (l : Looked) : Type 0 where
  pub stands : l.stands ≡ scans_any scan faults ts x
  pub seen : l.seen ≡ seen_any seen ts x
