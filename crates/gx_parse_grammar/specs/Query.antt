-- What the bytes of a query are parsed to.
use Rattle.std.specs.Prelude.{ℕ, List, [], ◌≡◌, true}
use Rattle.std.specs.Str.{encode_utf8_all, all_scalars}
use Rattle.gx_base.specs.declared.place.Place.{Place}
use Rattle.gx_ast.specs.declared.query.Query.{Query}
use Rattle.gx_grammar.specs.Value.{node}
use Rattle.gx_grammar.specs.Derivation.{Derives}
use Rattle.gx_grammar.specs.Decoding.{IsUnreadableAt}
use Rattle.gx_grammar.specs.Text.{IsUnfit, IsFaulty}
use Rattle.gx_parse_grammar.specs.declared.refusal.SyntaxRule.{SyntaxRule}
use Rattle.gx_parse_grammar.specs.declared.refusal.SyntaxRule.TheVariants.{NotUtf8, Syntax, TooNested, LiteralTooLarge, BadReference}
use Rattle.gx_parse_grammar.specs.declared.refusal.SyntaxRefusal.{SyntaxRefusal}
use Rattle.gx_parse_grammar.specs.declared.refusal.SyntaxRefusal.TheVariants.{Refused, Memory}
use Rattle.gx_parse_grammar.specs.Nodes.{Whole}
use Rattle.gx_parse_grammar.specs.Tokens.{limit_code, number_code, reference_code}
use Rattle.gx_parse_grammar.specs.Grammar.{query_language, place_in}
use Rattle.gx_parse_grammar.specs.Prolog.{query}

-- the text has this tree
abbrev pub IsQuery : List ℕ → Query → Type 0
IsQuery text q = Derives (query_language (place_in text)) (query (place_in text)) (node (Whole q)) text []

-- The text has no tree and no fault, and its longest front that opens the grammar ends at the place.
pub record IsUnfitAt (text : List ℕ) (place : Place) : Type 0 where
  pub left : ℕ
  pub unfit : IsUnfit (query_language (place_in text)) (query (place_in text)) text left
  pub there : place ≡ place_in text left

-- The text has no tree, and its one fault, with that code, stands at the place.
pub record IsFaultyAt (text : List ℕ) (code : ℕ) (place : Place) : Type 0 where
  pub left : ℕ
  pub faulty : IsFaulty (query_language (place_in text)) (query (place_in text)) text code left
  pub there : place ≡ place_in text left

-- the rule refuses the text at the place
abbrev pub IsRefused : List ℕ → SyntaxRule → Place → Type 0
IsRefused text NotUtf8 place = ⊥
IsRefused text Syntax place = IsUnfitAt text place
IsRefused text TooNested place = IsFaultyAt text limit_code place
IsRefused text LiteralTooLarge place = IsFaultyAt text number_code place
IsRefused text BadReference place = IsFaultyAt text reference_code place

-- the bytes are the UTF-8 of the text
pub record IsText (bytes text : List ℕ) : Type 0 where
  pub characters : all_scalars text ≡ true
  pub encoded : encode_utf8_all text ≡ bytes

-- what parsing comes to: a tree, or a refusal by a rule at a place
pub data Parsing : Type 0 where
  parsed : (tree : Query) → Parsing
  refused : (rule : SyntaxRule) → (place : Place) → Parsing

-- The bytes are not UTF-8, and the place is that of the first character that cannot be read; or they are the UTF-8 of a
-- text, which has the tree, or which the rule refuses at the place.
abbrev pub Parses : List ℕ → Parsing → Type 0
Parses bytes (parsed tree) = (text : List ℕ) × IsText bytes text × IsQuery text tree
Parses bytes (refused NotUtf8 place) = IsUnreadableAt bytes place
Parses bytes (refused rule place) = (text : List ℕ) × IsText bytes text × IsRefused text rule place

-- the refusal of a text; a lack of memory says nothing of it
abbrev pub RefusesText : SyntaxRefusal → List ℕ → Type 0
RefusesText (Refused rule place) text = IsRefused text rule place
RefusesText Memory text = Unit {0}

-- the refusal of bytes
abbrev pub RefusesBytes : SyntaxRefusal → List ℕ → Type 0
RefusesBytes (Refused rule place) bytes = Parses bytes (refused rule place)
RefusesBytes Memory bytes = Unit {0}
