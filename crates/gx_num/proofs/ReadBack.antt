-- What is printed is read back.
use Rattle.std.proofs.Common.{◌≡◌, ℕ, zero, suc, ◌+◌, ◌-◌, ◌*◌, ◌/◌, ◌%◌, ◌^◌, ◌<◌, ◌≤◌, Bool, true, false, cond, List, [], ◌∷◌, ◌++◌, length, nat_lt, ℤ, pos, negsuc, neg_ℤ, Ok, refl, ap, sym, ◌∙◌, arith, append-nil}
use Rattle.std.specs.Fmt.{decimal, signed_decimal}
use Rattle.std.specs.Char.{digit_value}
use Rattle.std.specs.Str.Parse.{AllDigits, IsNumeral, digits_value, without_leading_sign, starts_with_minus}
use Rattle.std.proofs.lemmas.Bool.Decides.{nat_tests}
use Rattle.std.proofs.lemmas.Fmt.{decimal_is_IsNumeral_wide}
use Rattle.std.proofs.lemmas.Nat.{pow-add}
use Rattle.std.proofs.Math.Nat.{one-le-pow, div-add-mod}
use Rattle.gx_num.specs.Number.{FitsInteger, FitsDecimal, fits_integer}
use Rattle.gx_num.specs.Lexical.{integer_of, integer_in_digits, decimal_of, decimal_in_digits, signed, before_point, behind_point, without_trailing_zeros, before_kept, units_in_places}
use Rattle.gx_num.specs.Printed.{places_text, units_text, signed_units_text}
use Rattle.gx_num.proofs.Digits.{own}
use Rattle.gx_num.proofs.Forms.{digits_unsigned, some_length_test}
use Rattle.gx_num.proofs.DecimalForms.{point_found, point_absent, unsigned_body, value_after, by_eqb}
use Rattle.gx_num.proofs.PrintedPlaces.{below_place, rest_below_place}

-- ---- integers

pub fits_test : (z : ℤ) → FitsInteger z → fits_integer z ≡ true
fits_test (pos n) fits = let below : n < 2 ^ 127 = fits.sfits in grind (arith, nat_tests)
fits_test (negsuc n) fits = let below : n < 2 ^ 127 = fits.sfits in grind (arith, nat_tests)

numeral_read : (negative : Bool) (ds : List ℕ) (z : ℤ) → IsNumeral 10 ds → signed negative (digits_value 10 ds) ≡ z → FitsInteger z → integer_in_digits negative ds ≡ Ok z
numeral_read negative ds z numeral e fits =
    rw (some_length_test (length ds) numeral.0, own.from ds numeral.1, e, fits_test z fits) refl

pub integer_back : (z : ℤ) → FitsInteger z → integer_of (signed_decimal z) ≡ Ok z
integer_back (pos n) fits =
    let below : n < 2 ^ 127 = fits.sfits in
    let written = decimal_is_IsNumeral_wide n (omega arith) in
    let plain = digits_unsigned (decimal n) written.0.1 in
    rw (plain.0, plain.1) (numeral_read false (decimal n) (pos n) written.0 (ap pos written.1) fits)
integer_back (negsuc n) fits =
    let below : n < 2 ^ 127 = fits.sfits in
    let written = decimal_is_IsNumeral_wide (suc n) (omega arith) in
    numeral_read true (decimal (suc n)) (negsuc n) written.0 (ap (λ m. neg_ℤ (pos m)) written.1) fits

-- ---- places

pub record IsPlaces (n rest : ℕ) (ds : List ℕ) : Type 0 where
  pub digits : AllDigits 10 ds
  pub kept : without_trailing_zeros ds ≡ ds
  pub short : length ds ≤ n
  pub value : digits_value 10 ds * 10 ^ (n - length ds) ≡ rest

no_places : (n rest : ℕ) → rest ≡ 0 → IsPlaces n rest []
no_places n rest e = record { digits = tt; kept = refl; short = omega arith; value = omega arith }

value_of_digit : (d : ℕ) → d < 10 → digit_value (48 + d) ≡ d
value_of_digit d h = grind (arith, nat_tests)

kept_before : (d : ℕ) (ds : List ℕ) → (ds ≡ [] → 0 < d) → before_kept (48 + d) ds ≡ (48 + d) ∷ ds
kept_before d [] some = by_eqb (λ b. cond b [] ((48 + d) ∷ []) ≡ (48 + d) ∷ []) (48 + d) 48 (λ e. let more : 0 < d = some refl in absurd (omega arith)) (λ ne. refl)
kept_before d (e ∷ es) some = refl

pub digit_by_place : (d : ℕ) (ds : List ℕ) → d < 10 → digits_value 10 ((48 + d) ∷ ds) ≡ d * 10 ^ length ds + digits_value 10 ds
digit_by_place d ds h = value_after (0 * 10 + digit_value (48 + d)) ds ∙ rw (value_of_digit d h) (omega arith)

first_some : (n rest d next : ℕ) (ds : List ℕ) → 0 < rest → d * 10 ^ n + next ≡ rest → digits_value 10 ds * 10 ^ (n - length ds) ≡ next → ds ≡ [] → 0 < d
first_some n rest zero next ds some split value e =
    let none : next ≡ 0 = sym value ∙ ap (λ v. digits_value 10 v * 10 ^ (n - length v)) e ∙ omega arith in
    absurd (omega arith)
first_some n rest (suc d) next ds some split value e = omega arith

places_value : (d n l value next rest : ℕ) → l ≤ n → d * 10 ^ n + next ≡ rest → value * 10 ^ (n - l) ≡ next → (d * 10 ^ l + value) * 10 ^ (suc n - suc l) ≡ rest
places_value d n l value next rest short split e =
    let same : suc n - suc l ≡ n - l = omega arith in
    let whole : l + (n - l) ≡ n = omega arith in
    let power : 10 ^ l * 10 ^ (n - l) ≡ 10 ^ n = sym (pow-add 10 l (n - l)) ∙ ap (λ k. 10 ^ k) whole in
    let product : d * (10 ^ l * 10 ^ (n - l)) ≡ d * 10 ^ n = ap (λ k. d * k) power in
    rw same (omega arith)

more_places : (n rest d next : ℕ) (ds : List ℕ) → d < 10 → 0 < rest → d * 10 ^ n + next ≡ rest → IsPlaces n next ds → IsPlaces (suc n) rest ((48 + d) ∷ ds)
more_places n rest d next ds digit some split places = record {
  digits = (rw (value_of_digit d digit) digit, places.digits);
  kept = ap (before_kept (48 + d)) places.kept ∙ kept_before d ds (first_some n rest d next ds some split places.value);
  short = omega arith;
  value = rw (digit_by_place d ds digit) (places_value d n (length ds) (digits_value 10 ds) next rest places.short split places.value);
}

pub places_are : (n rest : ℕ) → rest < 10 ^ n → IsPlaces n rest (places_text n rest)
unfolding places_text
places_are zero rest below = no_places 0 rest (omega arith)
places_are (suc n) rest below =
    let step : suc n ≡ n + 1 = omega arith in
    let positive : 0 < 10 ^ n = one-le-pow n 10 (omega arith) in
    let split : rest / 10 ^ n * 10 ^ n + rest % 10 ^ n ≡ rest = omega (arith, div-add-mod rest (10 ^ n)) in
    by_eqb (λ b. IsPlaces (suc n) rest (cond b [] ((48 + rest / 10 ^ n) ∷ places_text n (rest % 10 ^ n)))) rest 0
    (λ none. no_places (suc n) rest none)
    (λ some. more_places n rest (rest / 10 ^ n) (rest % 10 ^ n) (places_text n (rest % 10 ^ n)) (below_place (suc n) n (10 ^ n) rest step refl below)
    (omega arith) split (places_are n (rest % 10 ^ n) (rest_below_place n (10 ^ n) rest refl)))

-- ---- decimals

below_test : (n limit : ℕ) → n < limit → nat_lt n limit ≡ true
below_test n limit h = grind (arith, nat_tests)

places_read : (negative : Bool) (whole fraction : List ℕ) (z : ℤ) → AllDigits 10 whole → AllDigits 10 fraction → 0 < length whole + length fraction
    → digits_value 10 whole < 1000000000000 → length (without_trailing_zeros fraction) < 7
    → signed negative (digits_value 10 whole * 1000000 + units_in_places (without_trailing_zeros fraction)) ≡ z
    → decimal_in_digits negative whole fraction ≡ Ok z
places_read negative whole fraction z all rest some small short e =
    rw (
      some_length_test (length whole + length fraction) some,
      own.from whole all,
      own.from fraction rest,
      below_test (digits_value 10 whole) 1000000000000 small,
      below_test (length (without_trailing_zeros fraction)) 7 short,
      e,
    ) refl

plain : (n : ℕ) → n < 1000000000000000000 → (without_leading_sign (units_text n) ≡ units_text n) × (starts_with_minus (units_text n) ≡ false)
plain n small =
    let whole : ℕ = n / 1000000 in
    let written = decimal_is_IsNumeral_wide whole (omega arith) in
    by_eqb (λ b. (without_leading_sign (decimal whole ++ cond b [] (46 ∷ places_text 6 (n % 1000000))) ≡ decimal whole ++ cond b [] (46 ∷ places_text 6 (n % 1000000)))
    × (starts_with_minus (decimal whole ++ cond b [] (46 ∷ places_text 6 (n % 1000000))) ≡ false)) (n % 1000000) 0
    (λ none. rw append-nil (digits_unsigned (decimal whole) written.0.1))
    (λ some. unsigned_body (decimal whole) (places_text 6 (n % 1000000)) written.0.1)

units_back : (negative : Bool) (n : ℕ) (z : ℤ) → n < 1000000000000000000 → signed negative n ≡ z
    → decimal_in_digits negative (before_point (units_text n)) (behind_point (units_text n)) ≡ Ok z
units_back negative n z small e =
    let whole : ℕ = n / 1000000 in
    let rest : ℕ = n % 1000000 in
    let written = decimal_is_IsNumeral_wide whole (omega arith) in
    let places = places_are 6 rest (omega arith) in
    let limit : digits_value 10 (decimal whole) < 1000000000000 = rw written.1 (omega arith) in
    let length_some : 0 < length (decimal whole) = written.0.0 in
    by_eqb (λ b. decimal_in_digits negative (before_point (decimal whole ++ cond b [] (46 ∷ places_text 6 rest))) (behind_point (decimal whole ++ cond b [] (46 ∷ places_text 6 rest))) ≡ Ok z) rest 0
    (λ none.
    let parts = point_absent (decimal whole) written.0.1 in
    rw (append-nil, parts.0, parts.1) (places_read negative (decimal whole) [] z written.0.1 tt (omega arith) limit (omega arith) (ap (signed negative) (rw written.1 (omega arith)) ∙ e)))
    (λ some.
    let parts = point_found (decimal whole) (places_text 6 rest) written.0.1 in
    let short : length (without_trailing_zeros (places_text 6 rest)) < 7 = rw places.kept (omega arith) in
    rw (parts.0, parts.1) (places_read negative (decimal whole) (places_text 6 rest) z written.0.1 places.digits (omega arith) limit short
    (ap (signed negative) (rw (places.kept, written.1, places.value) (omega arith)) ∙ e)))

pub decimal_back : (u : ℤ) → FitsDecimal u → decimal_of (signed_units_text u) ≡ Ok u
decimal_back (pos n) fits = let same = plain n fits in rw (same.0, same.1) (units_back false n (pos n) fits refl)
decimal_back (negsuc n) fits = units_back true (suc n) (negsuc n) fits refl
