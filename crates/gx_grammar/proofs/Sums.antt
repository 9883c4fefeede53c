use Rattle.std.proofs.Common.{◌≡◌, ◌≢◌, ℕ, ◌<◌, Bool, true, false, List, [], ◌∷◌, ◌++◌, inl, inr, length, length-append, refl, ap, ◌∙◌, arith}
use Rattle.gx_grammar.specs.Value.{Value, nothing, characters}
use Rattle.gx_grammar.specs.Grammar.{◌&◌}
use Rattle.gx_grammar.specs.Opening.{open_token, open_first, open_left, open_right}
use Rattle.gx_grammar.specs.Laws.{LawfulTokens}
use Rattle.gx_grammar.specs.Levels.{takes_some, AreTakings, IsShielded, IsLevelled}
use Rattle.gx_grammar.specs.Text.{IsReadable}
use Rattle.gx_grammar.specs.First.{IsIn, AllOf, first_of, HasHead, AreFronts, IsSorted, head_passes, Stands}
use Rattle.gx_grammar.specs.Tokens.{LawfulToken, IsWord}
use Rattle.gx_grammar.specs.Sums.{Sign, plus, modulo, opening, closing, digits, gap, Rule, sum, is_digit, is_letter, no_character, any_character, lexeme, number, parenthesised, term, operator, sum_text, sums, sign_takes, sum_rank, sign_shape, sum_fronts}
use Rattle.gx_grammar.proofs.Tokens.{lawful_word, lawful_name, lawful_tokens}
use Rattle.gx_grammar.specs.Apart.{HasShape}
use Rattle.gx_grammar.proofs.Apart.{computed_apart, computed_words, word_shape}
use Rattle.gx_grammar.proofs.Gaps.{lawful_gap}
use Rattle.gx_grammar.proofs.ByTokens.{tokens_choose, tokens_repeat}
use Rattle.gx_grammar.proofs.ByCharacter.{character_chooses}
use Rattle.gx_grammar.proofs.Sorted.{sorted_readable}

sign_lawful : (t : Sign) → LawfulToken (sums.derives t) (sums.opens t) (sums.scan t) (sums.seen t) (sums.faults t)
sign_lawful plus = lawful_word nothing (43 ∷ []) no_character
sign_lawful modulo = lawful_word nothing (109 ∷ 111 ∷ 100 ∷ []) is_letter
sign_lawful opening = lawful_word nothing (40 ∷ []) no_character
sign_lawful closing = lawful_word nothing (41 ∷ []) no_character
sign_lawful digits = lawful_name characters is_digit is_digit is_letter
sign_lawful gap = lawful_gap any_character (refl, refl) nothing

lawful : LawfulTokens sums
lawful = lawful_tokens sums sign_lawful

shorter_word : {v value : Value ℕ} {c : ℕ} {w : List ℕ} {test : ℕ → Bool} {x y : List ℕ} → IsWord value (c ∷ w) test v x y → length y < length x
shorter_word {c = c} {w = w} {y = y} d = omega (arith, ap length d.spelled, length-append (c ∷ w) y)

signs_taken : (t : Sign) (v : Value ℕ) (x y : List ℕ) → sign_takes t ≡ true → sums.derives t v x y → length y < length x
signs_taken plus v x y e d = shorter_word d
signs_taken modulo v x y e d = shorter_word d
signs_taken opening v x y e d = shorter_word d
signs_taken closing v x y e d = shorter_word d
signs_taken digits v x y e d = omega (arith, ap length d.whole, ap length d.others.spelled, length-append d.others.run y)
signs_taken gap v x y e d = absurd (cc)

rule_taken : (p : Rule) → sum_fronts.takings.production_takes p ≡ true → takes_some sums sum_fronts.takings (sums.rules p) ≡ true
rule_taken sum e = refl

pub taken : AreTakings sums sum_fronts.takings
taken = record { tokens = signs_taken; productions = rule_taken }

rule_firsts : (p : Rule) → AllOf (IsIn (sum_fronts.first p)) (first_of sums sum_fronts (sums.rules p))
rule_firsts sum = (inl refl, (inr (inl refl), tt))

fronts : AreFronts sums sum_fronts
fronts = record { taken = taken; firsts = rule_firsts; follows = λ p y. ((λ h. h), (λ h. h)); follows_cut = λ p y. ((λ h. h), (λ h. h)) }

-- how the signs look

word_shaped : (t : Sign) (word : List ℕ) (test : ℕ → Bool) → ((v : Value ℕ) (x y : List ℕ) → sums.derives t v x y → IsWord nothing word test v x y)
    → (x : List ℕ) → Stands sums.derives sums.faults t x → (y : List ℕ) × (x ≡ word ++ y) × (head_passes test y ≡ false)
word_shaped t word test d x (inl s) = let w = d s.0 x s.1 s.2 in (s.1, w.spelled, w.ended)
word_shaped t word test d x (inr s) = absurd (let e = s.1 in cc e)

shaped : (t : Sign) → HasShape sums t (sign_shape t)
shaped plus = word_shape sums plus (43 ∷ []) no_character (word_shaped plus (43 ∷ []) no_character (λ v x y d. d), (λ x o. o), (λ x o. o))
shaped modulo = word_shape sums modulo (109 ∷ 111 ∷ 100 ∷ []) is_letter (word_shaped modulo (109 ∷ 111 ∷ 100 ∷ []) is_letter (λ v x y d. d), (λ x o. o), (λ x o. o))
shaped opening = word_shape sums opening (40 ∷ []) no_character (word_shaped opening (40 ∷ []) no_character (λ v x y d. d), (λ x o. o), (λ x o. o))
shaped closing = word_shape sums closing (41 ∷ []) no_character (word_shaped closing (41 ∷ []) no_character (λ v x y d. d), (λ x o. o), (λ x o. o))
shaped digits = (stands, opened)
  where
    stands : (x : List ℕ) → Stands sums.derives sums.faults digits x → (x ≢ []) × (head_passes is_digit x ≡ true)
    stands x (inl s) = let d = s.2 in ((λ e. let g = d.whole in absurd (cc (e, g))), ap (head_passes is_digit) d.whole ∙ d.begins)
    stands x (inr s) = absurd (let e = s.1 in cc e)

    opened : (x : List ℕ) → sums.opens digits x → x ≢ [] → head_passes is_digit x ≡ true
    opened [] o n = absurd (n refl)
    opened (c ∷ x) o n = o.0
shaped gap = tt

opening_fails : HasHead sums is_digit false opening
opening_fails = (computed_words sums sign_shape shaped is_digit false (opening ∷ []) refl).0

digits_pass : HasHead sums is_digit true digits
digits_pass = record { stands = (shaped digits).0; opened = (shaped digits).1 }

-- the guards

term_sorted : (us : List Sign) → IsSorted sums sum_fronts term us
term_sorted us = (
  character_chooses sums is_digit sum_fronts fronts number parenthesised us
      (record { takes = refl; passes = (digits_pass, tt); fails = (opening_fails, tt) }),
  (tt, tt),
  ((tt, tt), ((inl refl, tt), (tt, tt))),
)

operator_sorted : (us : List Sign) → IsSorted sums sum_fronts operator us
operator_sorted us = (
  tokens_choose sums lawful sum_fronts fronts (plus ∷ []) (lexeme plus) (lexeme modulo) us
      (record { takes = refl; first = (inl refl, tt); full = (refl, tt); opening = ((λ x o. open_first (open_token o)), tt); apart = computed_apart sums sign_shape shaped (plus ∷ []) (modulo ∷ []) refl }),
  (tt, tt),
  (tt, tt),
)

rule_sorted : (p : Rule) → IsSorted sums sum_fronts (sums.rules p) (sum_fronts.next p)
rule_sorted sum = (
  term_sorted (plus ∷ modulo ∷ closing ∷ []),
  (
    tokens_repeat sums lawful sum_fronts fronts (plus ∷ modulo ∷ []) (operator & term) (closing ∷ [])
        (record {
          takes = refl;
          first = (inl refl, (inr (inl refl), tt));
          full = (refl, (refl, tt));
          opening = ((λ x o. open_first (open_left (open_first (open_token o)))), ((λ x o. open_first (open_right (open_first (open_token o)))), tt));
          apart = computed_apart sums sign_shape shaped (plus ∷ modulo ∷ []) (closing ∷ []) refl;
        }),
    refl,
    (operator_sorted (digits ∷ opening ∷ []), term_sorted (plus ∷ modulo ∷ closing ∷ [])),
  ),
)

-- What the sums owe is met.
pub sums_readable : IsReadable sums sum_text
sums_readable = sorted_readable sums lawful sum_fronts fronts sum_text rule_sorted (tt, tt)

below : 0 < 1
below = omega arith

pub rule_shielded : (p : Rule) → IsShielded sums sum_fronts.takings sum_rank 0 (sums.rules p)
rule_shielded sum = (
  ((tt, inl (refl, tt)), ((tt, inl (refl, tt)), inl (refl, (below, (tt, tt))))),
  inl (refl, (((tt, tt), (tt, tt)), ((tt, tt), ((tt, tt), (below, (tt, tt)))))),
)

abbrev pub sums_levelled : IsLevelled sums sum_fronts.takings
sums_levelled = record { takings = taken; rank = sum_rank; shielded = rule_shielded }
