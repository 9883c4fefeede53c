-- The computed readings answer as the lexical forms say.
use Rattle.std.proofs.Common.{◌≡◌, ◌≢◌, ℕ, ◌^◌, ◌<◌, Bool, true, false, cond, eqb, ◌&&◌, List, [], ◌∷◌, ◌++◌, length, nat_lt, ℤ, pos, negsuc, Ok, Err, refl, ap, sym, ◌∙◌, arith, rules}
use Rattle.std.specs.Char.{digit_value}
use Rattle.std.specs.Str.Parse.{AllDigits, IsNumeral, digits_value, without_leading_sign, starts_with_minus}
use Rattle.std.proofs.lemmas.Bool.Decides.{nat_tests}
use Rattle.std.proofs.lemmas.Str.Parse.{digit_from_value}
use Rattle.gx_num.specs.declared.NumRead.TheVariants.{NotANumber, TooLarge}
use Rattle.gx_num.specs.Number.{FitsInteger, fits_integer}
use Rattle.gx_num.specs.Lexical.{NumeralSign, unsigned, plus, minus, sign_text, with_sign, IntegerForm, ReadsInteger, integer_of, signed, all_digits}
use Rattle.gx_num.proofs.Digits.{own}

pub by_cond : {A : Type 0} (P : A → Type 0) (b : Bool) (x y : A) → (b ≡ true → P x) → (b ≡ false → P y) → P (cond b x y)
by_cond P true x y f g = f refl
by_cond P false x y f g = g refl

pub both_true : (a b : Bool) → (a && b) ≡ true → (a ≡ true) × (b ≡ true)
both_true true b e = (refl, e)
both_true false b e = absurd (cc)

pub not_both : (a b : Bool) → (a && b) ≡ false → a ≡ true → b ≡ true → ⊥
not_both a b e p q = let clash : true ≡ false = sym (rw (p, q) refl) ∙ e in absurd (cc)

-- ---- signs

pub sign_in : List ℕ → NumeralSign
sign_in [] = unsigned
sign_in (c ∷ cs) = cond (eqb c 45) minus (cond (eqb c 43) plus unsigned)

pub sign_split : (text : List ℕ) → text ≡ sign_text (sign_in text) ++ without_leading_sign text
unfolding sign_in
sign_split [] = refl
sign_split (c ∷ cs) = grind (arith, nat_tests)

pub sign_value : (text : List ℕ) (n : ℕ) → signed (starts_with_minus text) n ≡ with_sign (sign_in text) n
unfolding sign_in
sign_value [] n = refl
sign_value (c ∷ cs) n = grind (arith, nat_tests)

pub first_digit : (c : ℕ) → digit_value c < 10 → (c ≢ 45) × (c ≢ 43)
first_digit c h = let range = digit_from_value c h in (omega arith, omega arith)

pub digits_unsigned : (ds : List ℕ) → AllDigits 10 ds → (without_leading_sign ds ≡ ds) × (starts_with_minus ds ≡ false)
digits_unsigned [] all = (refl, refl)
digits_unsigned (c ∷ cs) all = let other = first_digit c all.0 in grind (arith, nat_tests)

-- a sign and digits are read as that sign and those digits
pub spelled_sign : (sign : NumeralSign) (ds : List ℕ) → AllDigits 10 ds → (without_leading_sign (sign_text sign ++ ds) ≡ ds)
spelled_sign unsigned ds all = (digits_unsigned ds all).0
spelled_sign plus ds all = refl
spelled_sign minus ds all = refl

pub spelled_value : (sign : NumeralSign) (ds : List ℕ) (n : ℕ) → AllDigits 10 ds → with_sign sign n ≡ signed (starts_with_minus (sign_text sign ++ ds)) n
spelled_value unsigned ds n all = rw (digits_unsigned ds all).1 refl
spelled_value plus ds n all = refl
spelled_value minus ds n all = refl

-- ---- integers

pub fits_true : (z : ℤ) → fits_integer z ≡ true → FitsInteger z
fits_true (pos n) e = search (rules, nat_tests)
fits_true (negsuc n) e = search (rules, nat_tests)

pub fits_false : (z : ℤ) → fits_integer z ≡ false → ¬ FitsInteger z
fits_false (pos n) e fits = let below : n < 2 ^ 127 = fits.sfits in grind (arith, nat_tests)
fits_false (negsuc n) e fits = let below : n < 2 ^ 127 = fits.sfits in grind (arith, nat_tests)

pub some_length : (n : ℕ) → nat_lt 0 n ≡ true → 0 < n
some_length n e = grind (arith, nat_tests)

pub some_length_test : (n : ℕ) → 0 < n → nat_lt 0 n ≡ true
some_length_test n h = grind (arith, nat_tests)

-- the form that a text of a sign and digits has
integer_form : (text : List ℕ) → IsNumeral 10 (without_leading_sign text) → IntegerForm text (signed (starts_with_minus text) (digits_value 10 (without_leading_sign text)))
integer_form text numeral = record {
  sign = sign_in text;
  magnitude = without_leading_sign text;
  numeral = numeral;
  written = sign_split text;
  signed_magnitude = sign_value text (digits_value 10 (without_leading_sign text));
}

-- no other text has one
no_integer_form : (text : List ℕ) (z : ℤ) → IntegerForm text z → (nat_lt 0 (length (without_leading_sign text)) && all_digits (without_leading_sign text)) ≡ false → ⊥
no_integer_form text z form none =
    let same : without_leading_sign text ≡ form.magnitude = ap without_leading_sign form.written ∙ spelled_sign form.sign form.magnitude form.numeral.1 in
    let digits : all_digits (without_leading_sign text) ≡ true = rw same (own.from form.magnitude form.numeral.1) in
    let some : nat_lt 0 (length (without_leading_sign text)) ≡ true = rw same (some_length_test (length form.magnitude) form.numeral.0) in
    not_both _ _ none some digits

pub integer_read : (text : List ℕ) → ReadsInteger text (integer_of text)
integer_read text =
    let ds : List ℕ = without_leading_sign text in
    let z : ℤ = signed (starts_with_minus text) (digits_value 10 (without_leading_sign text)) in
    by_cond (ReadsInteger text) (nat_lt 0 (length (without_leading_sign text)) && all_digits (without_leading_sign text)) _ (Err NotANumber)
    (λ form.
    let parts = both_true _ _ form in
    let numeral : IsNumeral 10 (without_leading_sign text) = (some_length _ parts.0, own.to _ parts.1) in
    by_cond (ReadsInteger text) (fits_integer z) (Ok z) (Err TooLarge)
    (λ fits. (integer_form text numeral, fits_true z fits))
    (λ out. (z, integer_form text numeral, fits_false z out)))
    (λ none z' form. no_integer_form text z' form none)
