-- What the functions of the reader do.
use Rattle.std.specs.Prelude.{◌≡◌, ◌≢◌, ℕ, zero, suc, min, List, [], ◌∷◌, ◌++◌, length, Bool, Option, Some, None, Result, Ok, Err}
use Rattle.gx_base.specs.declared.place.Place.{Place}
use Rattle.gx_grammar.specs.Value.{Value, nothing, characters, node, pair}
use Rattle.gx_grammar.specs.Reading.{State, Refusal, Unfit, Faulty, Reading, go_on, taken, unless_fault, reads, read_with}
use Rattle.gx_num.specs.declared.Number.{Number}
use Rattle.gx_grammar.specs.Ran.{Standing, Going, GaveUp, Lost, Ran, IsDone}
use Rattle.gx_parse_tokens.specs.declared.names.ReadName.{ReadName}
use Rattle.gx_parse_tokens.specs.Names.{name_made}
use Rattle.gx_parse_grammar.specs.Numeral.{number_in}
use Rattle.gx_parse_tokens.specs.declared.reader.Refused.{Refused}
use Rattle.gx_parse_tokens.specs.declared.reader.Refused.TheVariants as refused
use Rattle.gx_parse_tokens.specs.declared.reader.End.{End}
use Rattle.gx_parse_tokens.specs.declared.reader.End.TheVariants as ended
use Rattle.gx_ast.specs.SyntaxTree.{SyntaxTree}
use Rattle.gx_parse_grammar.specs.declared.word.WordSet.{WordSet}
use Rattle.gx_parse_grammar.specs.Nodes.{Node, Made, Tree, Join, tree, joined_to}
use Rattle.gx_parse_grammar.specs.Tokens.{Token, qname, number, derives, opens, scan, seen, faults, limit_code, number_code, reference_code}
use Rattle.gx_parse_grammar.specs.Grammar.{Production, Phrase, query_language, place_in}
use Rattle.gx_parse_grammar.specs.Levels.{more_than}

abbrev pub refusal_of : Refused → Refusal
refusal_of (refused.Unfit far) = Unfit far
refusal_of (refused.Limit left) = Faulty limit_code left
refusal_of (refused.Number left) = Faulty number_code left
refusal_of (refused.Reference left) = Faulty reference_code left

-- where a reader stands
abbrev pub standing_of : List ℕ → ℕ → Option End → Standing
standing_of rest far None = Going (record { rest = rest; far = far })
standing_of rest far (Some (ended.GaveUp r)) = GaveUp (refusal_of r)
standing_of rest far (Some ended.Lost) = Lost

-- a token
unfoldable pub read_one : Token → State → Reading Made
read_one t s = unless_fault (faults t s.rest) (length s.rest) (taken (scan t s.rest) (min s.far (seen t s.rest)))

-- a Single, where that many productions and as many as the text has characters may stand in one another
unfoldable pub call : List ℕ → ℕ → Production → State → Reading Made
call text levels p s = reads (query_language (place_in text)) (more_than (length text) levels) p s

-- a part of the grammar, in which Singles may have so many levels
unfoldable pub read_in : List ℕ → ℕ → Phrase → State → Reading Made
read_in text levels part s = read_with (query_language (place_in text)) (call text (suc levels)) part s

-- a numeric literal, as its number
unfoldable pub read_number : State → Reading Number
read_number s = go_on (read_one number s) (λ v t. Ok (number_in v, t))

-- A name was read, or reading has ended.
abbrev pub NameRead : Option ReadName → Standing → Standing → Type 0
NameRead None before after = IsDone after × ((v : Made) → Ran v before after (read_one qname))
NameRead (Some n) before after = Ran (name_made n) before after (read_one qname)

-- how the reading of a whole text ended
abbrev pub Ended : Option End → Standing → Type 0
Ended None (Going s) = s.rest ≡ []
Ended (Some (ended.GaveUp r)) (Going s) = (s.rest ≢ []) × (refusal_of r ≡ Unfit s.far)
Ended (Some (ended.GaveUp r)) (GaveUp e) = e ≡ refusal_of r
Ended (Some ended.Lost) Lost = Unit {0}
Ended _ _ = ⊥

-- what was added behind a list holds
pub record Added {A : Type 0} (before after : List A) (Holds : List A → Type 0) : Type 0 where
  pub others : List A
  pub is : after ≡ before ++ others
  pub holds : Holds others
