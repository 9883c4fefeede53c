-- The computed reading of a decimal answers as the lexical form says.
use Rattle.std.proofs.Common.{◌≡◌, ◌≢◌, ℕ, zero, suc, ◌+◌, ◌-◌, ◌*◌, ◌^◌, ◌<◌, ◌≤◌, Bool, true, false, cond, eqb, ◌&&◌, ◌⊎◌, List, [], ◌∷◌, ◌++◌, length, length-append, replicate, nat_lt, unsigned_abs, Ok, Err, refl, ap, sym, ◌∙◌, inl, inr, arith}
use Rattle.std.specs.List.{list_all}
use Rattle.std.specs.Char.{is_ascii_digit, digit_value}
use Rattle.std.specs.Str.Parse.{AllDigits, digits_value, digits_value_after, without_leading_sign, starts_with_minus}
use Rattle.std.proofs.lemmas.Bool.Decides.{nat_tests}
use Rattle.std.proofs.lemmas.Str.Parse.{digit_from_value}
use Rattle.std.proofs.lemmas.Nat.{pow-add}
use Rattle.std.proofs.lemmas.List.{length-replicate}
use Rattle.std.proofs.lemmas.Bool.{eqb-true, eq-eqb}
use Rattle.std.proofs.lemmas.Int.Digits.{digits_value-lt}
use Rattle.std.proofs.Math.Nat.{mul-le-mul_right, pow-suc}
use Rattle.gx_num.specs.declared.NumRead.TheVariants.{NotANumber, TooLarge, TooPrecise}
use Rattle.gx_num.specs.Number.{FitsDecimal}
use Rattle.gx_num.specs.Lexical.{NumeralSign, unsigned, plus, minus, sign_text, DecimalForm, IsMagnitude, IsBelowLimit, ReadsDecimal, decimal_of, decimal_of_digits, signed, all_digits, before_point, behind_point, without_trailing_zeros, before_kept, units_in_places}
use Rattle.gx_num.proofs.Digits.{own, units_below_one, digits_value_below, pow_split}
use Rattle.gx_num.proofs.Places.{digits_kept}
use Rattle.gx_num.proofs.Forms.{by_cond, both_true, not_both, sign_in, sign_split, sign_value, first_digit, some_length, some_length_test, spelled_sign}

pub by_eqb : (P : Bool → Type 0) (c d : ℕ) → (c ≡ d → P true) → (c ≢ d → P false) → P (eqb c d)
by_eqb P c d f g = go (eqb c d) refl
  where
    go : (b : Bool) → eqb c d ≡ b → P b
    go true e = f (eqb-true c d e)
    go false e = g (λ same. let clash : true ≡ false = sym (eq-eqb c d same) ∙ e in absurd (cc))

-- ---- the point

pub point_split : (ds : List ℕ) → (ds ≡ before_point ds ++ 46 ∷ behind_point ds) ⊎ ((ds ≡ before_point ds) × (behind_point ds ≡ []))
point_split [] = inr (refl, refl)
point_split (c ∷ cs) = by_eqb (λ b. ((c ∷ cs) ≡ cond b [] (c ∷ before_point cs) ++ 46 ∷ cond b cs (behind_point cs))
    ⊎ (((c ∷ cs) ≡ cond b [] (c ∷ before_point cs)) × (cond b cs (behind_point cs) ≡ []))) c 46
    (λ here. inl (ap (λ x. x ∷ cs) here))
    (λ later. elim (point_split cs) [ inl e ↦ inl (ap (λ rest. c ∷ rest) e) | inr e ↦ inr (ap (λ rest. c ∷ rest) e.0, e.1) ])

pub point_found : (whole fraction : List ℕ) → AllDigits 10 whole → (before_point (whole ++ 46 ∷ fraction) ≡ whole) × (behind_point (whole ++ 46 ∷ fraction) ≡ fraction)
point_found [] fraction all = (refl, refl)
point_found (c ∷ cs) fraction all =
    let range = digit_from_value c all.0 in
    let rest = point_found cs fraction all.1 in
    by_eqb (λ b. (cond b [] (c ∷ before_point (cs ++ 46 ∷ fraction)) ≡ c ∷ cs) × (cond b (cs ++ 46 ∷ fraction) (behind_point (cs ++ 46 ∷ fraction)) ≡ fraction)) c 46
    (λ here. absurd (omega arith))
    (λ later. (ap (λ ds. c ∷ ds) rest.0, rest.1))

pub point_absent : (whole : List ℕ) → AllDigits 10 whole → (before_point whole ≡ whole) × (behind_point whole ≡ [])
point_absent [] all = (refl, refl)
point_absent (c ∷ cs) all =
    let range = digit_from_value c all.0 in
    let rest = point_absent cs all.1 in
    by_eqb (λ b. (cond b [] (c ∷ before_point cs) ≡ c ∷ cs) × (cond b cs (behind_point cs) ≡ [])) c 46
    (λ here. absurd (omega arith))
    (λ later. (ap (λ ds. c ∷ ds) rest.0, rest.1))

pub unsigned_body : (whole fraction : List ℕ) → AllDigits 10 whole → (without_leading_sign (whole ++ 46 ∷ fraction) ≡ whole ++ 46 ∷ fraction) × (starts_with_minus (whole ++ 46 ∷ fraction) ≡ false)
unsigned_body [] fraction all = (refl, refl)
unsigned_body (c ∷ cs) fraction all = let other = first_digit c all.0 in grind (arith, nat_tests)

-- ---- values

one_digit_more : (n d power value a b : ℕ) → a ≡ (n * 10 + d) * power + value → b ≡ (0 * 10 + d) * power + value → a ≡ n * (power * 10) + b
one_digit_more n d power value a b e f = omega arith

pub value_after : (n : ℕ) (ds : List ℕ) → digits_value_after 10 n ds ≡ n * 10 ^ length ds + digits_value 10 ds
value_after n [] = omega arith
value_after n (c ∷ cs) =
    rw pow-suc (one_digit_more n (digit_value c) (10 ^ length cs) (digits_value 10 cs) _ _ (value_after (n * 10 + digit_value c) cs) (value_after (0 * 10 + digit_value c) cs))

after_append : (n : ℕ) (xs ys : List ℕ) → digits_value_after 10 n (xs ++ ys) ≡ digits_value_after 10 (digits_value_after 10 n xs) ys
after_append n [] ys = refl
after_append n (x ∷ xs) ys = after_append (n * 10 + digit_value x) xs ys

pub value_append : (xs ys : List ℕ) → digits_value 10 (xs ++ ys) ≡ digits_value 10 xs * 10 ^ length ys + digits_value 10 ys
value_append xs ys = after_append 0 xs ys ∙ value_after (digits_value 10 xs) ys

pub zeros_value : (k : ℕ) → digits_value 10 (replicate k 48) ≡ 0
zeros_value zero = refl
zeros_value (suc k) = zeros_value k

pub zeros_trimmed : (ds : List ℕ) → (k : ℕ) × (ds ≡ without_trailing_zeros ds ++ replicate k 48)
zeros_trimmed [] = (0, refl)
zeros_trimmed (c ∷ cs) = zeros_before c cs (without_trailing_zeros cs) (zeros_trimmed cs)
  where
    zeros_before : (c : ℕ) (cs kept : List ℕ) → (k : ℕ) × (cs ≡ kept ++ replicate k 48) → (k : ℕ) × (c ∷ cs ≡ before_kept c kept ++ replicate k 48)
    zeros_before c cs [] rest = by_eqb (λ b. (k : ℕ) × (c ∷ cs ≡ cond b [] (c ∷ []) ++ replicate k 48)) c 48
        (λ zero. (suc rest.0, ap (λ x. x ∷ cs) zero ∙ ap (λ ds. 48 ∷ ds) rest.1))
        (λ other. (rest.0, ap (λ ds. c ∷ ds) rest.1))
    zeros_before c cs (d ∷ ds) rest = (rest.0, ap (λ ds. c ∷ ds) rest.1)

-- n units are the magnitude
units_of_digits : (dw dk lk k : ℕ) → lk ≤ 6
    → (dw * 1000000 + dk * 10 ^ (6 - lk)) * 10 ^ (lk + k) ≡ (dw * 10 ^ (lk + k) + dk * 10 ^ k) * 1000000
units_of_digits dw dk lk k short =
    let split : 10 ^ (lk + k) ≡ 10 ^ lk * 10 ^ k = pow-add 10 lk k in
    let six : 10 ^ lk * 10 ^ (6 - lk) ≡ 1000000 = pow_split lk short in
    let product : dk * (10 ^ lk * 10 ^ (6 - lk)) * 10 ^ k ≡ dk * 1000000 * 10 ^ k = ap (λ n. dk * n * 10 ^ k) six in
    rw split (omega arith)

pub magnitude_is : (whole fraction : List ℕ) → length (without_trailing_zeros fraction) ≤ 6
    → IsMagnitude whole fraction (digits_value 10 whole * 1000000 + units_in_places (without_trailing_zeros fraction))
magnitude_is whole fraction short =
    let kept : List ℕ = without_trailing_zeros fraction in
    let zeros = zeros_trimmed fraction in
    let lengths : length fraction ≡ length kept + zeros.0 =
    ap length zeros.1 ∙ length-append kept (replicate zeros.0 48) ∙ ap (λ n. length kept + n) (length-replicate {A = ℕ} zeros.0 48) in
    let value : digits_value 10 fraction ≡ digits_value 10 kept * 10 ^ zeros.0 =
    ap (digits_value 10) zeros.1 ∙ value_append kept (replicate zeros.0 48) ∙ rw (length-replicate {A = ℕ} zeros.0 48, zeros_value zeros.0) (omega arith) in
    let both : digits_value 10 (whole ++ fraction) ≡ digits_value 10 whole * 10 ^ (length kept + zeros.0) + digits_value 10 kept * 10 ^ zeros.0 =
    value_append whole fraction ∙ rw (value, lengths) refl in
    ap (λ n. (digits_value 10 whole * 1000000 + units_in_places kept) * 10 ^ n) lengths
    ∙ units_of_digits (digits_value 10 whole) (digits_value 10 kept) (length kept) zeros.0 short
    ∙ sym (ap (λ v. v * 1000000) both)

pub below_limit : (whole fraction : List ℕ) → AllDigits 10 fraction → digits_value 10 whole < 1000000000000 → IsBelowLimit whole fraction
below_limit whole fraction all h =
    let value = value_append whole fraction in
    let part : digits_value 10 fraction < 10 ^ length fraction = digits_value-lt 10 fraction all in
    let room : suc (digits_value 10 whole) * 10 ^ length fraction ≤ 1000000000000 * 10 ^ length fraction = mul-le-mul_right (10 ^ length fraction) h in
    omega arith

pub above_limit : (whole fraction : List ℕ) → 1000000000000 ≤ digits_value 10 whole → ¬ IsBelowLimit whole fraction
above_limit whole fraction h below =
    let value = value_append whole fraction in
    let room : 1000000000000 * 10 ^ length fraction ≤ digits_value 10 whole * 10 ^ length fraction = mul-le-mul_right (10 ^ length fraction) h in
    omega arith

abs_signed : (negative : Bool) (n : ℕ) → unsigned_abs (signed negative n) ≡ n
abs_signed true zero = refl
abs_signed true (suc n) = refl
abs_signed false n = refl

pub signed_fits : (negative : Bool) (n : ℕ) → n < 1000000000000000000 → FitsDecimal (signed negative n)
signed_fits negative n h = rw (abs_signed negative n) h

-- ---- the form

pub decimal_form : (text : List ℕ) → let ds = without_leading_sign text in AllDigits 10 (before_point ds) → AllDigits 10 (behind_point ds)
    → 0 < length (before_point ds) + length (behind_point ds) → DecimalForm text (sign_in text) (before_point ds) (behind_point ds)
decimal_form text whole fraction some = record {
  whole_digits = whole;
  fraction_digits = fraction;
  some_digit = some;
  written = elim (point_split (without_leading_sign text)) [
    | inl e ↦ inl (sign_split text ∙ ap (λ ds. sign_text (sign_in text) ++ ds) e)
    | inr e ↦ inr (sign_split text ∙ ap (λ ds. sign_text (sign_in text) ++ ds) e.0, e.1)
  ];
}

pub spelled_body : (sign : NumeralSign) (whole fraction : List ℕ) → AllDigits 10 whole → without_leading_sign (sign_text sign ++ (whole ++ 46 ∷ fraction)) ≡ whole ++ 46 ∷ fraction
spelled_body unsigned whole fraction all = (unsigned_body whole fraction all).0
spelled_body plus whole fraction all = refl
spelled_body minus whole fraction all = refl

-- the parts of a form are those that are computed
pub form_parts : (text : List ℕ) (sign : NumeralSign) (whole fraction : List ℕ) → DecimalForm text sign whole fraction
    → (before_point (without_leading_sign text) ≡ whole) × (behind_point (without_leading_sign text) ≡ fraction)
form_parts text sign whole fraction form = elim form.written [
  | inl e ↦
      let body = ap without_leading_sign e ∙ spelled_body sign whole fraction form.whole_digits in
      let parts = point_found whole fraction form.whole_digits in
      (ap before_point body ∙ parts.0, ap behind_point body ∙ parts.1)
  | inr e ↦
      let body = ap without_leading_sign e.0 ∙ spelled_sign sign whole form.whole_digits in
      let parts = point_absent whole form.whole_digits in
      (ap before_point body ∙ parts.0, ap behind_point body ∙ parts.1 ∙ sym e.1)
]

no_decimal_form : (text : List ℕ) (sign : NumeralSign) (whole fraction : List ℕ) → DecimalForm text sign whole fraction
    → let ds = without_leading_sign text in (nat_lt 0 (length (before_point ds) + length (behind_point ds)) && (all_digits (before_point ds) && all_digits (behind_point ds))) ≡ false → ⊥
no_decimal_form text sign whole fraction form none =
    let parts = form_parts text sign whole fraction form in
    let first : all_digits (before_point (without_leading_sign text)) ≡ true = rw parts.0 (own.from whole form.whole_digits) in
    let second : all_digits (behind_point (without_leading_sign text)) ≡ true = rw parts.1 (own.from fraction form.fraction_digits) in
    let some : nat_lt 0 (length (before_point (without_leading_sign text)) + length (behind_point (without_leading_sign text))) ≡ true =
    rw (parts.0, parts.1) (some_length_test (length whole + length fraction) form.some_digit) in
    not_both _ _ none some (rw (first, second) refl)

small_value : (n limit : ℕ) → nat_lt n limit ≡ true → n < limit
small_value n limit e = grind (arith, nat_tests)

large_value : (n limit : ℕ) → nat_lt n limit ≡ false → limit ≤ n
large_value n limit e = grind (arith, nat_tests)

in_range_read : (whole : ℕ) (places : List ℕ) → whole < 1000000000000 → list_all is_ascii_digit places ≡ true → length places ≤ 6
    → whole * 1000000 + units_in_places places < 1000000000000000000
in_range_read whole places h all short =
    let below = units_below_one (digits_value 10 places) (length places) short (digits_value_below places all) in
    omega arith

read_form : (text whole fraction : List ℕ) → DecimalForm text (sign_in text) whole fraction → ReadsDecimal text (decimal_of_digits (starts_with_minus text) whole fraction)
read_form text whole fraction form =
    let n : ℕ = digits_value 10 whole * 1000000 + units_in_places (without_trailing_zeros fraction) in
    by_cond (ReadsDecimal text) (nat_lt (digits_value 10 whole) 1000000000000) _ (Err TooLarge)
    (λ small. by_cond (ReadsDecimal text) (nat_lt (length (without_trailing_zeros fraction)) 7) (Ok (signed (starts_with_minus text) n)) (Err TooPrecise)
    (λ short.
    let few : length (without_trailing_zeros fraction) ≤ 6 = omega (arith, small_value _ _ short) in
    let whole_small = small_value _ _ small in
    let digits = digits_kept fraction (own.from fraction form.fraction_digits) in (
      (sign_in text, whole, fraction, form, (n, magnitude_is whole fraction few, sign_value text n)),
      signed_fits (starts_with_minus text) n (in_range_read (digits_value 10 whole) (without_trailing_zeros fraction) whole_small digits few),
    ))
    (λ long. (
      sign_in text,
      whole,
      fraction,
      form,
      (
        below_limit whole fraction form.fraction_digits (small_value _ _ small),
        λ six. let many : 7 ≤ length (without_trailing_zeros fraction) = large_value _ _ long in omega arith,
      ),
    )))
    (λ large. (sign_in text, whole, fraction, form, above_limit whole fraction (large_value _ _ large)))

pub decimal_read : (text : List ℕ) → ReadsDecimal text (decimal_of text)
decimal_read text =
    let whole : List ℕ = before_point (without_leading_sign text) in
    let fraction : List ℕ = behind_point (without_leading_sign text) in
    by_cond (ReadsDecimal text) (nat_lt 0 (length whole + length fraction) && (all_digits whole && all_digits fraction)) _ (Err NotANumber)
    (λ found.
    let parts = both_true _ _ found in
    let digits = both_true _ _ parts.1 in
    read_form text whole fraction (decimal_form text (own.to _ digits.0) (own.to _ digits.1) (some_length _ parts.0)))
    (λ none sign w f form. no_decimal_form text sign w f form none)
