-- The tokens of the small languages.
use Rattle.std.specs.Prelude.{◌≡◌, ℕ, List, Bool, ◌||◌, if◌then◌else◌, Option, Some, None}
use Rattle.gx_grammar.specs.Value.{Value, nothing, characters, node, pair}
use Rattle.gx_grammar.specs.Grammar.{Grammar, token, ◌&◌, made}
use Rattle.gx_grammar.specs.Language.{Language}
use Rattle.gx_grammar.specs.First.{EndsOrStarts, BeginsWith, head_passes}
use Rattle.gx_grammar.specs.Tokens.{IsWord, IsNamed, IsRun, IsFrontOf, strip, no_fault, scan_word, seen_word, scan_name, opens_name, seen_name, scan_run, opens_run, seen_run}
use Rattle.gx_grammar.specs.Fitting.{Never, scan_never}
use Rattle.gx_grammar.specs.Gaps.{IsGap, OpensGap, scan_gap, seen_gap}
use Rattle.gx_grammar.specs.Apart.{is}
use Rattle.gx_grammar.specs.Sums.{is_digit, is_letter, no_character, any_character}

pub data Token : Type 0 where
  -- these characters, behind which none stands that passes the test
  word : (letters : List ℕ) → (stop : ℕ → Bool) → Token
  -- a character that passes the first test, and the longest run behind it of those that pass the second, behind which
  -- none stands that passes the third
  named : (first others stop : ℕ → Bool) → Token
  -- the longest run of characters that pass the test, which may be empty
  run : (test : ℕ → Bool) → Token
  -- white space and comments
  gap : Token
  -- these characters, where they may not stand in front of one that passes the test
  barred : (letters : List ℕ) → (next : ℕ → Bool) → Token

-- Names have small letters, digits and hyphens, and begin with a letter.
abbrev pub is_name_character : ℕ → Bool
is_name_character c = is_letter c || (is_digit c || is 45 c)

abbrev pub symbol : List ℕ → Token
symbol letters = word letters no_character

abbrev pub keyword : List ℕ → Token
keyword letters = word letters is_name_character

abbrev pub name : Token
name = named is_letter is_name_character no_character

-- A number, which runs on to no letter.
abbrev pub digits : Token
digits = named is_digit is_digit is_letter

abbrev pub derives : {Node : Type 0} → Token → Value Node → List ℕ → List ℕ → Type 0
derives (word letters stop) = IsWord (characters letters) letters stop
derives (named first others stop) = IsNamed characters first others stop
derives (run test) = IsRun characters test no_character
derives gap = IsGap any_character nothing
derives (barred letters next) = Never

abbrev pub opens : Token → List ℕ → Type 0
opens (word letters stop) = λ x. IsFrontOf x letters
opens (named first others stop) = opens_name first others
opens (run test) = opens_run test
opens gap = OpensGap any_character 0
opens (barred letters next) = λ x. IsFrontOf x letters

abbrev pub scan : {Node : Type 0} → Token → List ℕ → Option (Value Node × List ℕ)
scan (word letters stop) = scan_word (characters letters) letters stop
scan (named first others stop) = scan_name characters first others stop
scan (run test) = scan_run characters test no_character
scan gap = scan_gap any_character nothing
scan (barred letters next) = scan_never

abbrev pub seen : Token → List ℕ → ℕ
seen (word letters stop) = seen_word letters
seen (named first others stop) = seen_name first others
seen (run test) = seen_run test
seen gap = seen_gap any_character 0
seen (barred letters next) = seen_word letters

-- the code of a text that is nested too deep
abbrev pub nesting_code : ℕ
nesting_code = 2

-- the fault of what stands in front of a character that passes the test
abbrev pub fault_in_front : (ℕ → Bool) → Option (List ℕ) → Option ℕ
fault_in_front next (Some x) = if head_passes next x then (Some nesting_code) else None
fault_in_front next None = None

abbrev pub faults : Token → List ℕ → Option ℕ
faults (barred letters next) = λ x. fault_in_front next (strip letters x)
faults _ = no_fault

-- the value of the first of two parts, and of the second
abbrev pub first_value : {Node : Type 0} → Value Node → Value Node
first_value (pair a b) = a
first_value _ = nothing

abbrev pub second_value : {Node : Type 0} → Value Node → Value Node
second_value (pair a b) = b
second_value _ = nothing

-- The value is a tree.
abbrev pub IsTree : {Tree : Type 0} → Value Tree → Type 0
IsTree {Tree = Tree} v = (t : Tree) × (v ≡ node t)

-- a token, and the white space and comments behind it
abbrev pub lexeme : {Production Node : Type 0} → Token → Grammar Token Production Node
lexeme t = made (λ left v. first_value v) (token t & token gap)

-- The language of these rules, where the tokens of the list may stand behind each production.
abbrev pub language_of : {Production Node : Type 0} → (Production → Grammar Token Production Node) → List Token → Language
language_of {Production = Production} {Node = Node} rules following = record {
  Token = Token;
  Production = Production;
  Node = Node;
  derives = derives;
  opens = opens;
  scan = scan;
  seen = seen;
  faults = faults;
  rules = rules;
  follows = λ p y. EndsOrStarts {Node = Node} derives faults following y;
  follows_cut = λ p y. BeginsWith {Node = Node} derives opens following y;
}
