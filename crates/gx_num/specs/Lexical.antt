-- The lexical spaces of xs:integer and xs:decimal (XML Schema Part 2, 3.3.13.1 and 3.2.3.1), over the bytes of a text:
-- which texts are numbers, which number each is, and what reading answers.
use Rattle.std.specs.Prelude.{ℕ, ◌+◌, ◌-◌, ◌*◌, ◌^◌, ◌<◌, ◌≤◌, Bool, true, false, ◌&&◌, nat_lt, ◌==◌, if◌then◌else◌, ◌≡◌, ◌⊎◌, List, [], ◌∷◌, ◌++◌, length, ℤ, pos, neg_ℤ, Result, Ok, Err}
use Rattle.std.specs.List.{list_all}
use Rattle.std.specs.Char.{is_ascii_digit}
use Rattle.std.specs.Str.Parse.{AllDigits, IsNumeral, digits_value, without_leading_sign, starts_with_minus}
use Rattle.gx_num.specs.declared.NumRead.{NumRead}
use Rattle.gx_num.specs.declared.NumRead.TheVariants.{NotANumber, TooLarge, TooPrecise}
use Rattle.gx_num.specs.Number.{FitsInteger, FitsDecimal, fits_integer}

-- ---- the forms

pub data NumeralSign : Type 0 where
  unsigned : NumeralSign
  plus : NumeralSign
  minus : NumeralSign

abbrev pub sign_text : NumeralSign → List ℕ
sign_text unsigned = []
sign_text plus = 43 ∷ []
sign_text minus = 45 ∷ []

abbrev pub with_sign : NumeralSign → ℕ → ℤ
with_sign unsigned n = pos n
with_sign plus n = pos n
with_sign minus n = neg_ℤ (pos n)

-- an optional sign, then one digit or more
pub record IntegerForm (text : List ℕ) (z : ℤ) : Type 0 where
  pub sign : NumeralSign
  pub magnitude : List ℕ
  pub numeral : IsNumeral 10 magnitude
  pub written : text ≡ sign_text sign ++ magnitude
  pub signed_magnitude : z ≡ with_sign sign (digits_value 10 magnitude)

-- an optional sign, then one digit or more, with at most one point among them, first or last or between
pub record DecimalForm (text : List ℕ) (sign : NumeralSign) (whole fraction : List ℕ) : Type 0 where
  pub whole_digits : AllDigits 10 whole
  pub fraction_digits : AllDigits 10 fraction
  pub some_digit : 0 < length whole + length fraction
  pub written : (text ≡ sign_text sign ++ (whole ++ 46 ∷ fraction)) ⊎ ((text ≡ sign_text sign ++ whole) × (fraction ≡ []))

-- The digits of a decimal write `digits_value (whole ++ fraction)` units of 10^-(length fraction).
-- n units of 10^-6 are that magnitude.
abbrev pub IsMagnitude : List ℕ → List ℕ → ℕ → Type 0
IsMagnitude whole fraction n = n * 10 ^ length fraction ≡ digits_value 10 (whole ++ fraction) * 1000000

-- the magnitude is below 10^12
abbrev pub IsBelowLimit : List ℕ → List ℕ → Type 0
IsBelowLimit whole fraction = digits_value 10 (whole ++ fraction) < 1000000000000 * 10 ^ length fraction

-- c before places whose trailing zeros are dropped already
abbrev pub before_kept : ℕ → List ℕ → List ℕ
before_kept c [] = if c == 48 then [] else c ∷ []
before_kept c (d ∷ ds) = c ∷ d ∷ ds

abbrev pub without_trailing_zeros : List ℕ → List ℕ
without_trailing_zeros [] = []
without_trailing_zeros (c ∷ cs) = before_kept c (without_trailing_zeros cs)

-- at most 6 places remain after trailing zeros are dropped
abbrev pub HasSixPlaces : List ℕ → Type 0
HasSixPlaces fraction = length (without_trailing_zeros fraction) ≤ 6

-- ---- what reading answers, by the forms

abbrev pub ReadsInteger : List ℕ → Result ℤ NumRead → Type 0
ReadsInteger text (Ok z) = IntegerForm text z × FitsInteger z
ReadsInteger text (Err NotANumber) = (z : ℤ) → ¬ IntegerForm text z
ReadsInteger text (Err TooLarge) = (z : ℤ) × IntegerForm text z × ¬ FitsInteger z
ReadsInteger text (Err TooPrecise) = ⊥

-- a decimal's form, with a fact of its parts
abbrev pub SomeForm : List ℕ → (NumeralSign → List ℕ → List ℕ → Type 0) → Type 0
SomeForm text P = (sign : NumeralSign) × (whole : List ℕ) × (fraction : List ℕ) × DecimalForm text sign whole fraction × P sign whole fraction

abbrev pub ReadsDecimal : List ℕ → Result ℤ NumRead → Type 0
ReadsDecimal text (Ok u) =
    SomeForm text (λ sign whole fraction. (n : ℕ) × IsMagnitude whole fraction n × (u ≡ with_sign sign n)) × FitsDecimal u
ReadsDecimal text (Err NotANumber) = (sign : NumeralSign) (whole fraction : List ℕ) → ¬ DecimalForm text sign whole fraction
ReadsDecimal text (Err TooLarge) = SomeForm text (λ sign whole fraction. ¬ IsBelowLimit whole fraction)
ReadsDecimal text (Err TooPrecise) = SomeForm text (λ sign whole fraction. IsBelowLimit whole fraction × ¬ HasSixPlaces fraction)

-- ---- the same by computing

abbrev pub all_digits : List ℕ → Bool
all_digits text = list_all is_ascii_digit text

abbrev pub signed : Bool → ℕ → ℤ
signed true n = neg_ℤ (pos n)
signed false n = pos n

abbrev pub integer_in_digits : Bool → List ℕ → Result ℤ NumRead
integer_in_digits negative digits =
    if nat_lt 0 (length digits) && all_digits digits
    then (if fits_integer (signed negative (digits_value 10 digits)) then Ok (signed negative (digits_value 10 digits)) else Err TooLarge)
    else Err NotANumber

abbrev pub integer_of : List ℕ → Result ℤ NumRead
integer_of text = integer_in_digits (starts_with_minus text) (without_leading_sign text)

-- what stands before the first point, and behind it
abbrev pub before_point : List ℕ → List ℕ
before_point [] = []
before_point (c ∷ cs) = if c == 46 then [] else c ∷ before_point cs

abbrev pub behind_point : List ℕ → List ℕ
behind_point [] = []
behind_point (c ∷ cs) = if c == 46 then cs else behind_point cs

-- places that are no more than 6, in units of 10^-6
abbrev pub units_in_places : List ℕ → ℕ
units_in_places places = digits_value 10 places * 10 ^ (6 - length places)

-- of digits alone
abbrev pub decimal_of_digits : Bool → List ℕ → List ℕ → Result ℤ NumRead
decimal_of_digits negative whole fraction =
    if nat_lt (digits_value 10 whole) 1000000000000
    then (if nat_lt (length (without_trailing_zeros fraction)) 7
    then Ok (signed negative (digits_value 10 whole * 1000000 + units_in_places (without_trailing_zeros fraction)))
    else Err TooPrecise)
    else Err TooLarge

abbrev pub decimal_in_digits : Bool → List ℕ → List ℕ → Result ℤ NumRead
decimal_in_digits negative whole fraction =
    if nat_lt 0 (length whole + length fraction) && (all_digits whole && all_digits fraction)
    then decimal_of_digits negative whole fraction
    else Err NotANumber

abbrev pub decimal_of : List ℕ → Result ℤ NumRead
decimal_of text = let digits = without_leading_sign text in
    decimal_in_digits (starts_with_minus text) (before_point digits) (behind_point digits)
