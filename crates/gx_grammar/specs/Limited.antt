-- A small language with limits: sums of numbers in parentheses.
use Rattle.std.specs.Prelude.{ℕ, zero, suc, List, [], ◌∷◌, ◌||◌, nat_le, Bool, true, false, Option, Some, None, if◌then◌else◌, length}
use Rattle.gx_grammar.specs.Value.{Value, nothing, characters}
use Rattle.gx_grammar.specs.Grammar.{Grammar, token, empty, ◌&◌, choose, rule}
use Rattle.gx_grammar.specs.Language.{Language}
use Rattle.gx_grammar.specs.First.{EndsOrStarts, BeginsWith, Fronts, by_character, head_passes}
use Rattle.gx_grammar.specs.Fitting.{IsFitting, Never, scan_fitting, scan_never, fault_of, IsEmpty}
use Rattle.gx_grammar.specs.Apart.{Shape, headed, shapeless, one_word, is}
use Rattle.gx_grammar.specs.Tokens.{IsWord, IsNamed, IsFrontOf, no_fault, scan_word, seen_word, scan_name, opens_name, seen_name}
use Rattle.gx_grammar.specs.Gaps.{IsGap, OpensGap, scan_gap, seen_gap}
use Rattle.gx_grammar.specs.Sums.{is_digit, is_letter, no_character, any_character}

-- A small language with limits: sums of numbers with parentheses, where at most three sums stand in one another,
-- at most four numbers or parentheses in one sum, and at most three digits in a number.
pub data Mark : Type 0 where
  plus : Mark
  opening : Mark
  closing : Mark
  number : Mark
  gap : Mark
  -- where a sum may not stand, and where an operand may not stand
  no_sum : Mark
  no_operand : Mark

pub data Nested : Type 0 where
  sum : ℕ → Nested

-- the number has at most three digits
abbrev pub is_short : Value ℕ → Bool
is_short (characters digits) = nat_le (length digits) 3
is_short _ = false

-- the first character of an operand
abbrev pub begins_operand : ℕ → Bool
begins_operand c = is_digit c || is 40 c

-- the code 2, where an operand would begin
abbrev pub limit_fault : List ℕ → Option ℕ
limit_fault x = if head_passes begins_operand x then (Some 2) else None

abbrev pub scan_digits : List ℕ → Option (Value ℕ × List ℕ)
scan_digits x = scan_name characters is_digit is_digit is_letter x

abbrev pub mark_derives : Mark → Value ℕ → List ℕ → List ℕ → Type 0
mark_derives plus = IsWord nothing (43 ∷ []) no_character
mark_derives opening = IsWord nothing (40 ∷ []) no_character
mark_derives closing = IsWord nothing (41 ∷ []) no_character
mark_derives number = IsFitting (IsNamed characters is_digit is_digit is_letter) is_short
mark_derives gap = IsGap any_character nothing
mark_derives no_sum = Never
mark_derives no_operand = Never

abbrev pub mark_opens : Mark → List ℕ → Type 0
mark_opens plus = λ x. IsFrontOf x (43 ∷ [])
mark_opens opening = λ x. IsFrontOf x (40 ∷ [])
mark_opens closing = λ x. IsFrontOf x (41 ∷ [])
mark_opens number = opens_name is_digit is_digit
mark_opens gap = OpensGap any_character 0
mark_opens no_sum = IsEmpty
mark_opens no_operand = IsEmpty

abbrev pub scan_mark : Mark → List ℕ → Option (Value ℕ × List ℕ)
scan_mark plus = scan_word nothing (43 ∷ []) no_character
scan_mark opening = scan_word nothing (40 ∷ []) no_character
scan_mark closing = scan_word nothing (41 ∷ []) no_character
scan_mark number = scan_fitting scan_digits is_short
scan_mark gap = scan_gap any_character nothing
scan_mark no_sum = scan_never
scan_mark no_operand = scan_never

abbrev pub seen_mark : Mark → List ℕ → ℕ
seen_mark plus = seen_word (43 ∷ [])
seen_mark opening = seen_word (40 ∷ [])
seen_mark closing = seen_word (41 ∷ [])
seen_mark number = seen_name is_digit is_digit
seen_mark gap = seen_gap any_character 0
seen_mark no_sum = length
seen_mark no_operand = length

abbrev pub mark_faults : Mark → List ℕ → Option ℕ
mark_faults number = λ x. fault_of 3 is_short (scan_digits x)
mark_faults no_sum = limit_fault
mark_faults no_operand = limit_fault
mark_faults _ = no_fault

abbrev pub LimitedPart : Type 0
LimitedPart = Grammar Mark Nested ℕ

abbrev pub mark : Mark → LimitedPart
mark t = token t & token gap

abbrev pub parenthesised : ℕ → LimitedPart
parenthesised levels = mark opening & (rule (sum levels) & mark closing)

abbrev pub operand : ℕ → LimitedPart
operand levels = choose (by_character (is 40)) (parenthesised levels) (mark number)

-- at most so many further operands; where one more would begin, it is refused
abbrev pub operands : ℕ → ℕ → LimitedPart
operands levels zero = choose (by_character (is 43)) (mark plus & token no_operand) empty
operands levels (suc n) = choose (by_character (is 43)) (mark plus & (operand levels & operands levels n)) empty

abbrev pub limited_rules : Nested → LimitedPart
limited_rules (sum zero) = token no_sum
limited_rules (sum (suc levels)) = operand levels & operands levels 3

abbrev pub limited_text : LimitedPart
limited_text = token gap & rule (sum 3)

abbrev pub limited : Language
limited = record {
  Token = Mark;
  Production = Nested;
  Node = ℕ;
  derives = mark_derives;
  opens = mark_opens;
  scan = scan_mark;
  seen = seen_mark;
  faults = mark_faults;
  rules = limited_rules;
  follows = λ p y. EndsOrStarts mark_derives mark_faults (closing ∷ []) y;
  follows_cut = λ p y. BeginsWith mark_derives mark_opens (closing ∷ []) y;
}

abbrev pub mark_takes : Mark → Bool
mark_takes gap = false
mark_takes _ = true

-- how the marks look
abbrev pub mark_shape : Mark → Shape
mark_shape plus = one_word (43 ∷ []) no_character
mark_shape opening = one_word (40 ∷ []) no_character
mark_shape closing = one_word (41 ∷ []) no_character
mark_shape number = headed is_digit
mark_shape gap = shapeless
mark_shape no_sum = headed begins_operand
mark_shape no_operand = headed begins_operand

-- each sum holds sums of one level less
abbrev pub limited_rank : Nested → ℕ
limited_rank (sum levels) = levels

abbrev pub limited_fronts : Fronts limited
limited_fronts = record {
  takings = record { token_takes = mark_takes; production_takes = λ p. true };
  first = λ p. opening ∷ number ∷ no_sum ∷ [];
  next = λ p. closing ∷ [];
}
