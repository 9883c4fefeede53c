-- Equality of values: it is an equivalence, and equal values are written alike.
use Rattle.std.proofs.Common.{◌≡◌, ℕ, List, Bool, true, false, ℤ, pos, int_div, refl, sym, ◌∙◌, ap, subst, arith}
use Rattle.std.specs.Prelude.{◌*ℤ◌}
use Rattle.std.specs.Cmp.{IsEquivalence, eq_by_cmp_equiv, signed_Decides}
use Rattle.std.specs.Cmp.Lexicographic.{texts_ties, bytes_decides}
use Rattle.std.specs.Ordering.{eq_by_cmp, is_eq, bool_cmp, int_cmp}
use Rattle.std.proofs.lemmas.Bool.{lt-ltb}
use Rattle.std.proofs.lemmas.Int.{ints, quot-rem, rem_below}
use Rattle.gx_base.specs.Text.{same_text, text_cmp}
use Rattle.gx_num.specs.Number.{FitsDecimal, fits_decimal}
use Rattle.gx_facets.specs.declared.AtomValue.{AtomValue}
use Rattle.gx_facets.specs.declared.AtomValue.TheVariants.{Untyped, Str, Truth, Num}
use Rattle.gx_sorting.specs.ValueOrder.{value_cmp}
use Rattle.gx_sorting.proofs.Comparisons.{value_in_order, value_cmp_total}
use Rattle.gx_atomic.specs.Comparison.{are_equal}

-- ---- it is an equivalence

-- values are equal exactly where they are in the order of all values
equal_in_order : (a b : AtomValue) → are_equal a b ≡ eq_by_cmp value_cmp a b
equal_in_order (Untyped s) (Untyped t) = ap is_eq (sym (value_in_order (Untyped s) (Untyped t) _ refl))
equal_in_order (Untyped s) (Str t) = ap is_eq (sym (value_in_order (Untyped s) (Str t) _ refl))
equal_in_order (Untyped s) (Truth q) = refl
equal_in_order (Untyped s) (Num n) = refl
equal_in_order (Str s) (Untyped t) = ap is_eq (sym (value_in_order (Str s) (Untyped t) _ refl))
equal_in_order (Str s) (Str t) = ap is_eq (sym (value_in_order (Str s) (Str t) _ refl))
equal_in_order (Str s) (Truth q) = refl
equal_in_order (Str s) (Num n) = refl
equal_in_order (Truth p) (Untyped t) = refl
equal_in_order (Truth p) (Str t) = refl
equal_in_order (Truth p) (Truth q) = ap is_eq (sym (value_in_order (Truth p) (Truth q) _ refl))
equal_in_order (Truth p) (Num n) = refl
equal_in_order (Num m) (Untyped t) = refl
equal_in_order (Num m) (Str t) = refl
equal_in_order (Num m) (Truth q) = refl
equal_in_order (Num m) (Num n) = ap is_eq (sym (value_in_order (Num m) (Num n) _ refl))

pub values_are_equivalent : IsEquivalence are_equal
values_are_equivalent =
    let same : eq_by_cmp value_cmp ≡ are_equal = λ i a b. sym (equal_in_order a b) i in
    subst IsEquivalence same (eq_by_cmp_equiv value_cmp_total)

-- ---- within a family

pub equal_texts : (s t : List ℕ) → is_eq (text_cmp s t) ≡ true → s ≡ t
equal_texts s t e = (bytes_decides s t).0 (texts_ties s t ∙ e)

pub equal_truths : (p q : Bool) → is_eq (bool_cmp p q) ≡ true → p ≡ q
equal_truths true true e = refl
equal_truths true false e = absurd (cc)
equal_truths false true e = absurd (cc)
equal_truths false false e = refl

pub equal_units : (u v : ℤ) → is_eq (int_cmp u v) ≡ true → u ≡ v
equal_units u v e = (signed_Decides u v).0 e

-- ---- numbers from their units

pub decimal_fits : (u : ℤ) → FitsDecimal u → fits_decimal u ≡ true
decimal_fits u h = lt-ltb _ _ h

pub integer_of_units : (i : ℤ) → int_div (i *ℤ pos 1000000) (pos 1000000) ≡ i
integer_of_units i =
    let sum = quot-rem (i *ℤ pos 1000000) (pos 1000000) in
    let small = rem_below (i *ℤ pos 1000000) (pos 1000000) (omega arith) in
    omega (arith, ints, sum, small)

pub texts_of_one_order : (s t : List ℕ) → same_text s t ≡ is_eq (text_cmp s t)
texts_of_one_order s t = texts_ties s t
