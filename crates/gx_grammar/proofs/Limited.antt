use Rattle.std.proofs.Common.{◌≡◌, ◌≢◌, ℕ, zero, suc, ◌<◌, Bool, true, false, if◌then◌else◌, List, [], ◌∷◌, ◌++◌, inl, inr, length, length-append, refl, ap, ◌∙◌, Some, None, arith}
use Rattle.gx_grammar.specs.Value.{Value, nothing, characters}
use Rattle.gx_grammar.specs.Grammar.{empty}
use Rattle.gx_grammar.specs.Laws.{LawfulTokens}
use Rattle.gx_grammar.specs.Levels.{takes_some, HasRanksBelow, AreTakings, IsShielded, IsLevelled}
use Rattle.gx_grammar.specs.Text.{IsReadable}
use Rattle.gx_grammar.specs.First.{IsIn, AllOf, first_of, AreFronts, IsSorted, head_passes, Stands}
use Rattle.gx_grammar.specs.Tokens.{LawfulToken, IsWord, IsNamed, no_fault, scan_run, opens_name, seen_name}
use Rattle.gx_grammar.specs.Fitting.{fault_of}
use Rattle.gx_grammar.specs.Apart.{HasShape, is}
use Rattle.gx_grammar.specs.Sums.{is_digit, is_letter, no_character, any_character}
use Rattle.gx_grammar.specs.Limited.{Mark, plus, opening, closing, number, gap, no_sum, no_operand, Nested, sum, is_short, begins_operand, limit_fault, scan_digits, mark, parenthesised, operand, operands, limited_text, limited, mark_takes, mark_shape, limited_rank, limited_fronts}
use Rattle.gx_grammar.proofs.Tokens.{lawful_word, lawful_name, lawful_tokens}
use Rattle.gx_grammar.proofs.Gaps.{lawful_gap}
use Rattle.gx_grammar.proofs.Fitting.{lawful_fitting, fitting_firm, lawful_barred}
use Rattle.gx_grammar.proofs.Apart.{computed_heads, word_shape}
use Rattle.gx_grammar.proofs.ByCharacter.{character_chooses}
use Rattle.gx_grammar.proofs.Levels.{below_shields}
use Rattle.gx_grammar.proofs.Sorted.{sorted_readable}

digits_lawful : LawfulToken (IsNamed characters is_digit is_digit is_letter) (opens_name is_digit is_digit) scan_digits (seen_name is_digit is_digit) no_fault
digits_lawful = lawful_name characters is_digit is_digit is_letter

mark_lawful : (t : Mark) → LawfulToken (limited.derives t) (limited.opens t) (limited.scan t) (limited.seen t) (limited.faults t)
mark_lawful plus = lawful_word nothing (43 ∷ []) no_character
mark_lawful opening = lawful_word nothing (40 ∷ []) no_character
mark_lawful closing = lawful_word nothing (41 ∷ []) no_character
mark_lawful number =
    lawful_fitting _ _ scan_digits (seen_name is_digit is_digit) no_fault digits_lawful is_short (λ x. fault_of 3 is_short (scan_digits x))
    (fitting_firm _ _ scan_digits (seen_name is_digit is_digit) no_fault digits_lawful 3 is_short) refl
mark_lawful gap = lawful_gap any_character (refl, refl) nothing
mark_lawful no_sum = lawful_barred limit_fault refl
mark_lawful no_operand = lawful_barred limit_fault refl

lawful : LawfulTokens limited
lawful = lawful_tokens limited mark_lawful

shorter_word : {v value : Value ℕ} {c : ℕ} {w : List ℕ} {test : ℕ → Bool} {x y : List ℕ} → IsWord value (c ∷ w) test v x y → length y < length x
shorter_word {c = c} {w = w} {y = y} d = omega (arith, ap length d.spelled, length-append (c ∷ w) y)

marks_taken : (t : Mark) (v : Value ℕ) (x y : List ℕ) → mark_takes t ≡ true → limited.derives t v x y → length y < length x
marks_taken plus v x y e d = shorter_word d
marks_taken opening v x y e d = shorter_word d
marks_taken closing v x y e d = shorter_word d
marks_taken number v x y e d = let n = d.stands in omega (arith, ap length n.whole, ap length n.others.spelled, length-append n.others.run y)
marks_taken gap v x y e d = absurd (cc)
marks_taken no_sum v x y e d = absurd d
marks_taken no_operand v x y e d = absurd d

rule_taken : (p : Nested) → limited_fronts.takings.production_takes p ≡ true → takes_some limited limited_fronts.takings (limited.rules p) ≡ true
rule_taken (sum zero) e = refl
rule_taken (sum (suc levels)) e = refl

pub taken : AreTakings limited limited_fronts.takings
taken = record { tokens = marks_taken; productions = rule_taken }

rule_firsts : (p : Nested) → AllOf (IsIn (limited_fronts.first p)) (first_of limited limited_fronts (limited.rules p))
rule_firsts (sum zero) = (inr (inr (inl refl)), tt)
rule_firsts (sum (suc levels)) = (inl refl, (inr (inl refl), tt))

right : AreFronts limited limited_fronts
right = record { taken = taken; firsts = rule_firsts; follows = λ p y. ((λ h. h), (λ h. h)); follows_cut = λ p y. ((λ h. h), (λ h. h)) }

-- how the marks look

word_shaped : (t : Mark) (word : List ℕ) (test : ℕ → Bool) → ((v : Value ℕ) (x y : List ℕ) → limited.derives t v x y → IsWord nothing word test v x y) → ((x : List ℕ) → limited.faults t x ≡ None)
    → (x : List ℕ) → Stands limited.derives limited.faults t x → (y : List ℕ) × (x ≡ word ++ y) × (head_passes test y ≡ false)
word_shaped t word test d f x (inl s) = let w = d s.0 x s.1 s.2 in (s.1, w.spelled, w.ended)
word_shaped t word test d f x (inr s) = absurd (let e = s.1 in let g = f x in cc (e, g))

limit_heads : (x : List ℕ) (code : ℕ) → limit_fault x ≡ Some code → (x ≢ []) × (head_passes begins_operand x ≡ true)
limit_heads [] code e = absurd (cc)
limit_heads (c ∷ x) code e = ((λ f. absurd (cc)), go (begins_operand c) refl e)
  where
    go : (b : Bool) → begins_operand c ≡ b → (if b then (Some 2) else None) ≡ Some code → b ≡ true
    go true f g = refl
    go false f g = absurd (cc)

barred_shaped : (t : Mark) → ((v : Value ℕ) (x y : List ℕ) → limited.derives t v x y → ⊥) → ((x : List ℕ) → limited.faults t x ≡ limit_fault x)
    → (x : List ℕ) → Stands limited.derives limited.faults t x → (x ≢ []) × (head_passes begins_operand x ≡ true)
barred_shaped t d f x (inl s) = absurd (d s.0 x s.1 s.2)
barred_shaped t d f x (inr s) = limit_heads x s.0 (let e = s.1 in let g = f x in cc)

scanned_digit : (c : ℕ) (x : List ℕ) (code : ℕ) → fault_of 3 is_short (scan_digits (c ∷ x)) ≡ Some code → is_digit c ≡ true
scanned_digit c x code e = go (is_digit c) refl e
  where
    go : (b : Bool) → is_digit c ≡ b → fault_of 3 is_short (if b then (scan_run (λ r. characters (c ∷ r)) is_digit is_letter x) else None) ≡ Some code → b ≡ true
    go true f g = refl
    go false f g = absurd (cc)

number_stands : (x : List ℕ) → Stands limited.derives limited.faults number x → (x ≢ []) × (head_passes is_digit x ≡ true)
number_stands x (inl s) = let d = s.2 in let n = d.stands in ((λ e. let g = n.whole in absurd (cc (e, g))), ap (head_passes is_digit) n.whole ∙ n.begins)
number_stands [] (inr s) = absurd (let e = s.1 in cc e)
number_stands (c ∷ x) (inr s) = ((λ e. absurd (cc)), scanned_digit c x s.0 s.1)

number_opened : (x : List ℕ) → limited.opens number x → x ≢ [] → head_passes is_digit x ≡ true
number_opened [] o n = absurd (n refl)
number_opened (c ∷ x) o n = o.0

shaped : (t : Mark) → HasShape limited t (mark_shape t)
shaped plus = word_shape limited plus (43 ∷ []) no_character (word_shaped plus (43 ∷ []) no_character (λ v x y d. d) (λ x. refl), (λ x o. o), (λ x o. o))
shaped opening = word_shape limited opening (40 ∷ []) no_character (word_shaped opening (40 ∷ []) no_character (λ v x y d. d) (λ x. refl), (λ x o. o), (λ x o. o))
shaped closing = word_shape limited closing (41 ∷ []) no_character (word_shaped closing (41 ∷ []) no_character (λ v x y d. d) (λ x. refl), (λ x o. o), (λ x o. o))
shaped number = (number_stands, number_opened)
shaped gap = tt
shaped no_sum = (barred_shaped no_sum (λ v x y d. d) (λ x. refl), (λ x o n. absurd (n o)))
shaped no_operand = (barred_shaped no_operand (λ v x y d. d) (λ x. refl), (λ x o n. absurd (n o)))

-- the guards

operand_sorted : (levels : ℕ) (us : List Mark) → IsSorted limited limited_fronts (operand levels) us
operand_sorted levels us = (
  character_chooses limited (is 40) limited_fronts right (parenthesised levels) (mark number) us
      (record { takes = refl; passes = computed_heads limited mark_shape shaped 40 true (opening ∷ []) refl; fails = computed_heads limited mark_shape shaped 40 false (number ∷ []) refl }),
  ((tt, tt), ((inl refl, tt), (tt, tt))),
  (tt, tt),
)

operands_sorted : (levels n : ℕ) → IsSorted limited limited_fronts (operands levels n) (closing ∷ [])
operands_sorted levels zero = (
  character_chooses limited (is 43) limited_fronts right _ empty (closing ∷ [])
      (record { takes = refl; passes = computed_heads limited mark_shape shaped 43 true (plus ∷ []) refl; fails = computed_heads limited mark_shape shaped 43 false (closing ∷ []) refl }),
  ((tt, tt), tt),
  tt,
)
operands_sorted levels (suc n) = (
  character_chooses limited (is 43) limited_fronts right _ empty (closing ∷ [])
      (record { takes = refl; passes = computed_heads limited mark_shape shaped 43 true (plus ∷ []) refl; fails = computed_heads limited mark_shape shaped 43 false (closing ∷ []) refl }),
  ((tt, tt), (operand_sorted levels _, operands_sorted levels n)),
  tt,
)

rule_sorted : (p : Nested) → IsSorted limited limited_fronts (limited.rules p) (limited_fronts.next p)
rule_sorted (sum zero) = tt
rule_sorted (sum (suc levels)) = (operand_sorted levels _, operands_sorted levels 3)

-- What the language owes is met.
pub limited_readable : IsReadable limited limited_text
limited_readable = sorted_readable limited lawful limited_fronts right limited_text rule_sorted (tt, tt)

operand_low : (levels : ℕ) → HasRanksBelow limited limited_rank (suc levels) (operand levels)
operand_low levels = (((tt, tt), (below, (tt, tt))), (tt, tt))
  where
    below : levels < suc levels
    below = omega arith

operands_low : (levels n : ℕ) → HasRanksBelow limited limited_rank (suc levels) (operands levels n)
operands_low levels zero = (((tt, tt), tt), tt)
operands_low levels (suc n) = (((tt, tt), (operand_low levels, operands_low levels n)), tt)

pub rule_shielded : (p : Nested) → IsShielded limited limited_fronts.takings limited_rank (limited_rank p) (limited.rules p)
rule_shielded (sum zero) = tt
rule_shielded (sum (suc levels)) = (below_shields limited limited_fronts.takings limited_rank (suc levels) (operand levels) (operand_low levels), inr (below_shields limited limited_fronts.takings limited_rank (suc levels) (operands levels 3) (operands_low levels 3)))

abbrev pub limited_levelled : IsLevelled limited limited_fronts.takings
limited_levelled = record { takings = taken; rank = limited_rank; shielded = rule_shielded }
