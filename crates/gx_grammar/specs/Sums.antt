-- A small language: sums of numbers.
use Rattle.std.specs.Prelude.{ℕ, List, [], ◌∷◌, ◌&&◌, nat_le, Bool, true, false, Option, None}
use Rattle.gx_grammar.specs.Value.{Value, nothing, characters, node, pair}
use Rattle.gx_grammar.specs.Grammar.{Grammar, token, ◌&◌, choose, many, rule, made}
use Rattle.gx_grammar.specs.Language.{Language}
use Rattle.gx_grammar.specs.First.{EndsOrStarts, BeginsWith, Fronts, by_character, by_tokens}
use Rattle.gx_grammar.specs.Tokens.{IsWord, IsNamed, IsFrontOf, scan_word, seen_word, scan_name, opens_name, seen_name}
use Rattle.gx_grammar.specs.Apart.{Shape, headed, shapeless, one_word}
use Rattle.gx_grammar.specs.Gaps.{IsGap, OpensGap, scan_gap, seen_gap}

-- A small language, to show what an instance is: sums of numbers with `+` and `mod` and with parentheses,
-- where white space and comments may stand before, between and behind the tokens.
pub data Sign : Type 0 where
  plus : Sign
  modulo : Sign
  opening : Sign
  closing : Sign
  digits : Sign
  gap : Sign

pub data Rule : Type 0 where
  sum : Rule

abbrev pub is_digit : ℕ → Bool
is_digit c = nat_le 48 c && nat_le c 57

abbrev pub is_letter : ℕ → Bool
is_letter c = nat_le 97 c && nat_le c 122

abbrev pub no_character : ℕ → Bool
no_character c = false

abbrev pub any_character : ℕ → Bool
any_character c = true

abbrev pub sign_derives : Sign → Value ℕ → List ℕ → List ℕ → Type 0
sign_derives plus = IsWord nothing (43 ∷ []) no_character
sign_derives modulo = IsWord nothing (109 ∷ 111 ∷ 100 ∷ []) is_letter
sign_derives opening = IsWord nothing (40 ∷ []) no_character
sign_derives closing = IsWord nothing (41 ∷ []) no_character
sign_derives digits = IsNamed characters is_digit is_digit is_letter
sign_derives gap = IsGap any_character nothing

abbrev pub sign_opens : Sign → List ℕ → Type 0
sign_opens plus = λ x. IsFrontOf x (43 ∷ [])
sign_opens modulo = λ x. IsFrontOf x (109 ∷ 111 ∷ 100 ∷ [])
sign_opens opening = λ x. IsFrontOf x (40 ∷ [])
sign_opens closing = λ x. IsFrontOf x (41 ∷ [])
sign_opens digits = opens_name is_digit is_digit
sign_opens gap = OpensGap any_character 0

abbrev pub scan_sign : Sign → List ℕ → Option (Value ℕ × List ℕ)
scan_sign plus = scan_word nothing (43 ∷ []) no_character
scan_sign modulo = scan_word nothing (109 ∷ 111 ∷ 100 ∷ []) is_letter
scan_sign opening = scan_word nothing (40 ∷ []) no_character
scan_sign closing = scan_word nothing (41 ∷ []) no_character
scan_sign digits = scan_name characters is_digit is_digit is_letter
scan_sign gap = scan_gap any_character nothing

abbrev pub seen_sign : Sign → List ℕ → ℕ
seen_sign plus = seen_word (43 ∷ [])
seen_sign modulo = seen_word (109 ∷ 111 ∷ 100 ∷ [])
seen_sign opening = seen_word (40 ∷ [])
seen_sign closing = seen_word (41 ∷ [])
seen_sign digits = seen_name is_digit is_digit
seen_sign gap = seen_gap any_character 0

-- no sign has a limit
abbrev pub sign_faults : Sign → List ℕ → Option ℕ
sign_faults t x = None

abbrev pub SumPart : Type 0
SumPart = Grammar Sign Rule ℕ

-- a token, and the white space and comments behind it
abbrev pub lexeme : Sign → SumPart
lexeme t = token t & token gap

-- a number has the place of its first digit
abbrev pub number : SumPart
number = made (λ left v. pair (node left) v) (lexeme digits)

abbrev pub parenthesised : SumPart
parenthesised = lexeme opening & (rule sum & lexeme closing)

abbrev pub term : SumPart
term = choose (by_character is_digit) number parenthesised

abbrev pub operator : SumPart
operator = choose (by_tokens scan_sign sign_faults seen_sign (plus ∷ [])) (lexeme plus) (lexeme modulo)

abbrev pub sum_of_terms : SumPart
sum_of_terms = term & many (by_tokens scan_sign sign_faults seen_sign (plus ∷ modulo ∷ [])) (operator & term)

abbrev pub sum_text : SumPart
sum_text = token gap & rule sum

abbrev pub sum_rules : Rule → SumPart
sum_rules sum = sum_of_terms

abbrev pub sums : Language
sums = record {
  Token = Sign;
  Production = Rule;
  Node = ℕ;
  derives = sign_derives;
  opens = sign_opens;
  scan = scan_sign;
  seen = seen_sign;
  faults = sign_faults;
  rules = sum_rules;
  follows = λ p y. EndsOrStarts sign_derives sign_faults (closing ∷ []) y;
  follows_cut = λ p y. BeginsWith sign_derives sign_opens (closing ∷ []) y;
}

abbrev pub sign_takes : Sign → Bool
sign_takes plus = true
sign_takes modulo = true
sign_takes opening = true
sign_takes closing = true
sign_takes digits = true
sign_takes gap = false

-- the one production calls itself behind a parenthesis alone
abbrev pub sum_rank : Rule → ℕ
sum_rank p = 0

-- how the signs look
abbrev pub sign_shape : Sign → Shape
sign_shape plus = one_word (43 ∷ []) no_character
sign_shape modulo = one_word (109 ∷ 111 ∷ 100 ∷ []) is_letter
sign_shape opening = one_word (40 ∷ []) no_character
sign_shape closing = one_word (41 ∷ []) no_character
sign_shape digits = headed is_digit
sign_shape gap = shapeless

abbrev pub sum_fronts : Fronts sums
sum_fronts = record {
  takings = record { token_takes = sign_takes; production_takes = λ p. true };
  first = λ p. digits ∷ opening ∷ [];
  next = λ p. closing ∷ [];
}
