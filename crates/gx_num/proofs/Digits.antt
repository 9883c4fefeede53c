-- Decimal digits and the numbers that they write.
use Rattle.std.proofs.Common.{◌≡◌, ℕ, ◌+◌, ◌-◌, ◌*◌, ◌^◌, ◌<◌, ◌≤◌, true, List, length, take, get_or, ap, sym, ◌∙◌, arith, rules}
use Rattle.std.proofs.Math.Nat.{mul-lt-mul_of_pos_right, le-mul_of_pos_right, one-le-pow, pow-le-pow_right}
use Rattle.std.proofs.lemmas.Nat.{pow-add}
use Rattle.std.specs.List.{list_all}
use Rattle.std.specs.Int.{IsInRange}
use Rattle.std.proofs.lemmas.Bool.Decides.{nat_tests}
use Rattle.std.specs.Char.{is_ascii_digit, digit_value}
use Rattle.std.specs.Str.Parse.{digits_value}
use Rattle.std.proofs.lemmas.Str.Parse.{IsNumeralModel, numerals_by_value, IsDigitsTest, digits_value-take-le, digit_at}
use Rattle.std.proofs.lemmas.Int.Digits.{digits_value_more, digits_value-lt}

pub digits_test : IsDigitsTest (λ ds. list_all is_ascii_digit ds ≡ true)
digits_test = search rules

pub own : IsNumeralModel (λ ds. list_all is_ascii_digit ds ≡ true) (digits_value 10)
own = numerals_by_value _ digits_test

-- a digit of a text of digits
pub digit_in : (ds : List ℕ) (i : ℕ) → list_all is_ascii_digit ds ≡ true → i < length ds → IsInRange 48 57 (get_or ds i 0)
digit_in ds i all h = digit_at ds i (own.to ds all) h

digit_value_is : (c : ℕ) → IsInRange 48 57 c → digit_value c ≡ c - 48
digit_value_is c h = grind (arith, nat_tests)

-- one digit more
pub digits_value_next : (ds : List ℕ) (i : ℕ) → list_all is_ascii_digit ds ≡ true → i < length ds → digits_value 10 (take (i + 1) ds) ≡ digits_value 10 (take i ds) * 10 + (get_or ds i 0 - 48)
digits_value_next ds i all h = digits_value_more 10 ds i h ∙ ap (λ v. digits_value 10 (take i ds) * 10 + v) (digit_value_is _ (digit_in ds i all h))

pub digits_value_prefix : (ds : List ℕ) (i : ℕ) → digits_value 10 (take i ds) ≤ digits_value 10 ds
digits_value_prefix ds i = digits_value-take-le 10 ds i (omega arith)

pub digits_value_below : (ds : List ℕ) → list_all is_ascii_digit ds ≡ true → digits_value 10 ds < 10 ^ length ds
digits_value_below ds all = digits_value-lt 10 ds (own.to ds all)

pub ruleset natural_steps = (digit_in, digits_value_next, digits_value_prefix)

pow_ten_pos : (k : ℕ) → 0 < 10 ^ k
pow_ten_pos k = one-le-pow k 10 (omega arith)

pub pow_split : (k : ℕ) → k ≤ 6 → 10 ^ k * 10 ^ (6 - k) ≡ 1000000
pow_split k h =
    let six : k + (6 - k) ≡ 6 = omega arith in
    sym (pow-add 10 k (6 - k)) ∙ ap (λ n. 10 ^ n) six

-- places that are no more than 6 write less than one
pub units_below_one : (v k : ℕ) → k ≤ 6 → v < 10 ^ k → v * 10 ^ (6 - k) < 1000000
units_below_one v k h less =
    let room : 0 < 10 ^ (6 - k) = pow_ten_pos (6 - k) in
    let step : v * 10 ^ (6 - k) < 10 ^ k * 10 ^ (6 - k) = mul-lt-mul_of_pos_right less room in
    rw (pow_split k h) at step

pub pow_ten_fits : (k : ℕ) → k ≤ 6 → 10 ^ (6 - k) < 2 ^ 64
pow_ten_fits k h =
    let whole : 10 ^ (6 - k) ≤ 10 ^ (6 - k) * 10 ^ k = le-mul_of_pos_right (10 ^ (6 - k)) (pow_ten_pos k) in
    let split : 10 ^ k * 10 ^ (6 - k) ≡ 1000000 = pow_split k h in
    omega arith

pub digits_value_six : (ds : List ℕ) (i : ℕ) → list_all is_ascii_digit ds ≡ true → length ds ≤ 6 → digits_value 10 (take i ds) < 1000000
digits_value_six ds i all short =
    let below : digits_value 10 ds < 10 ^ length ds = digits_value_below ds all in
    let prefix : digits_value 10 (take i ds) ≤ digits_value 10 ds = digits_value_prefix ds i in
    let room : 10 ^ length ds ≤ 10 ^ 6 = pow-le-pow_right (omega arith) short in
    omega arith

pub ruleset places_steps = (digits_value_six, digit_in, digits_value_next, digits_value_prefix, digits_value_below, units_below_one, pow_ten_fits)
