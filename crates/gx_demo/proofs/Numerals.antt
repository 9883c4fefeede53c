-- Words that are read as numbers.
use Rattle.std.proofs.Common.{◌≡◌, ◌≤◌, ◌<◌, ◌^◌, ℕ, Bool, true, false, ◌&&◌, not, ◌==◌, nat_le, List, [], ◌∷◌, length, get_or, Option, None, Some, arith, refl, sym, ap, ◌∙◌, inl, inr}
use Rattle.std.specs.Prelude.{Result, Ok, Err, ◌⊎◌, if◌then◌else◌}
use Rattle.std.specs.Result.{OkIff}
use Rattle.std.specs.Str.{all_ascii_digits}
use Rattle.std.specs.Str.Parse.{ParsesUnsigned, digits_value}
use Rattle.std.proofs.lemmas.Bool.Decides.{leb_tells}
use Rattle.std.proofs.lemmas.Result.{OkIff-at_ok}
use Rattle.std.proofs.lemmas.Str.Parse.{parse_plain, IsNumeralModel, numerals_by_value, tells_all_ascii_digits}
use Rattle.gx_demo.specs.Workload.{at_most, items_asked}

own : IsNumeralModel (λ ds. all_ascii_digits ds ≡ true) (digits_value 10)
own = numerals_by_value (λ ds. all_ascii_digits ds ≡ true) tells_all_ascii_digits

abbrev IsNumber : List ℕ → Type 0
IsNumber word = (all_ascii_digits word ≡ true) × (0 < length word) × (digits_value 10 word < 2 ^ 32)

not_zero : (first : ℕ) → 49 ≤ first → (first == 48) ≡ false
not_zero first low = search (arith)

parsed : {E : Type 0} (first : ℕ) (digits : List ℕ) (r : Result ℕ E) → 49 ≤ first → ParsesUnsigned 32 10 (first ∷ digits) r → OkIff r (IsNumber (first ∷ digits)) (digits_value 10 (first ∷ digits))
parsed first digits r low h = parse_plain own 32 (first ∷ digits) r h (λ e. omega (arith, e))

number_by : (first : ℕ) (digits : List ℕ) (zero digital within : Bool) → (first == 48) ≡ zero → all_ascii_digits (first ∷ digits) ≡ digital → nat_le (digits_value 10 (first ∷ digits)) 20000 ≡ within
    → items_asked (first ∷ digits) ≡ (if not zero && (digital && within) then Some (digits_value 10 (first ∷ digits)) else None)
number_by first digits true digital within e f g =
    ap (λ b. at_most 20000 (if not b && all_ascii_digits (first ∷ digits) then Some (digits_value 10 (first ∷ digits)) else None)) e
number_by first digits false false within e f g =
    ap (λ b. at_most 20000 (if not b && all_ascii_digits (first ∷ digits) then Some (digits_value 10 (first ∷ digits)) else None)) e
    ∙ ap (λ b. at_most 20000 (if b then Some (digits_value 10 (first ∷ digits)) else None)) f
number_by first digits false true within e f g =
    ap (λ b. at_most 20000 (if not b && all_ascii_digits (first ∷ digits) then Some (digits_value 10 (first ∷ digits)) else None)) e
    ∙ ap (λ b. at_most 20000 (if b then Some (digits_value 10 (first ∷ digits)) else None)) f
    ∙ ap (λ (b : Bool). if◌then◌else◌ {A = Option ℕ} b (Some (digits_value 10 (first ∷ digits))) None) g

-- a number that is read, and is not too great
pub number_there : {E : Type 0} (word : List ℕ) (r : Result ℕ E) (n : ℕ) → 0 < length word → 49 ≤ get_or word 0 0 → ParsesUnsigned 32 10 word r → r ≡ Ok n → n ≤ 20000 → items_asked word ≡ Some n
number_there [] r n some low h e l = absurd (let k = low in omega arith)
number_there (first ∷ digits) r n some low h e l =
    let is = OkIff-at_ok r (IsNumber (first ∷ digits)) (digits_value 10 (first ∷ digits)) n (parsed first digits r low h) e in
    let same : n ≡ digits_value 10 (first ∷ digits) = is.1 in
    by is.0.0 same (leb_tells (digits_value 10 (first ∷ digits)) 20000)
  where
    by : all_ascii_digits (first ∷ digits) ≡ true → n ≡ digits_value 10 (first ∷ digits)
        → ((nat_le (digits_value 10 (first ∷ digits)) 20000 ≡ true) × (digits_value 10 (first ∷ digits) ≤ 20000)) ⊎ ((nat_le (digits_value 10 (first ∷ digits)) 20000 ≡ false) × (20000 < digits_value 10 (first ∷ digits)))
        → items_asked (first ∷ digits) ≡ Some n
    by all same (inl k) = number_by first digits false true true (not_zero first low) all k.0 ∙ ap Some (sym same)
    by all same (inr k) = absurd (let m = k.1 in omega (arith, same))

-- a word that is no number, or a number that is too great
no_number_by : (first : ℕ) (digits : List ℕ) → 49 ≤ first → (all_ascii_digits (first ∷ digits) ≡ true → 20000 < digits_value 10 (first ∷ digits)) → (digital : Bool) → all_ascii_digits (first ∷ digits) ≡ digital
    → ((nat_le (digits_value 10 (first ∷ digits)) 20000 ≡ true) × (digits_value 10 (first ∷ digits) ≤ 20000)) ⊎ ((nat_le (digits_value 10 (first ∷ digits)) 20000 ≡ false) × (20000 < digits_value 10 (first ∷ digits)))
    → items_asked (first ∷ digits) ≡ None
no_number_by first digits low great false e (inl k) = number_by first digits false false true (not_zero first low) e k.0
no_number_by first digits low great false e (inr k) = number_by first digits false false false (not_zero first low) e k.0
no_number_by first digits low great true e (inl k) = absurd (let m = great e in let l = k.1 in omega arith)
no_number_by first digits low great true e (inr k) = number_by first digits false true false (not_zero first low) e k.0

great_where : {E : Type 0} (first : ℕ) (digits : List ℕ) (r : Result ℕ E) → OkIff r (IsNumber (first ∷ digits)) (digits_value 10 (first ∷ digits))
    → ((n : ℕ) → r ≡ Ok n → 20000 < n) → all_ascii_digits (first ∷ digits) ≡ true → 20000 < digits_value 10 (first ∷ digits)
great_where first digits (Ok n) is e all = let same : n ≡ digits_value 10 (first ∷ digits) = is.1 in let m = e n refl in omega (arith, same)
great_where first digits (Err error) is e all = by (leb_tells (digits_value 10 (first ∷ digits)) 20000)
  where
    by : ((nat_le (digits_value 10 (first ∷ digits)) 20000 ≡ true) × (digits_value 10 (first ∷ digits) ≤ 20000)) ⊎ ((nat_le (digits_value 10 (first ∷ digits)) 20000 ≡ false) × (20000 < digits_value 10 (first ∷ digits)))
        → 20000 < digits_value 10 (first ∷ digits)
    by (inl k) = let l = k.1 in let small : digits_value 10 (first ∷ digits) < 2 ^ 32 = omega arith in absurd (is (all, omega arith, small))
    by (inr k) = k.1

pub no_number : {E : Type 0} (word : List ℕ) (r : Result ℕ E) → 0 < length word → 49 ≤ get_or word 0 0 → ParsesUnsigned 32 10 word r → ((n : ℕ) → r ≡ Ok n → 20000 < n) → items_asked word ≡ None
no_number [] r some low h e = refl
no_number (first ∷ digits) r some low h e =
    no_number_by first digits low (great_where first digits r (parsed first digits r low h) e) (all_ascii_digits (first ∷ digits)) refl (leb_tells (digits_value 10 (first ∷ digits)) 20000)
