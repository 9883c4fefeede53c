-- The first of the least or greatest numbers.
use Rattle.std.proofs.Common.{◌≡◌, ℕ, zero, suc, ◌<◌, Bool, true, false, cond, List, [], ◌∷◌, length, refl, sym, ◌∙◌, ap, arith}
use Rattle.std.specs.Prelude.{is_some, Option, None, Some, unwrap_or, if◌then◌else◌}
use Rattle.std.specs.Prelude.{slice_index_or}
use Rattle.std.specs.List.{best_of}
use Rattle.std.specs.Cmp.{IsStrictWeakOrder, back_total}
use Rattle.std.specs.Ordering.{is_lt, is_gt, ordering_reverse}
use Rattle.std.specs.declared.cmp.Ordering.{Ordering}
use Rattle.std.specs.declared.cmp.Ordering.TheVariants.{Less, Equal, Greater}
use Rattle.std.proofs.lemmas.List.Sorted.{ranks_by}
use Rattle.std.proofs.lemmas.List.MinMax.{IsFirstBest-from_best_of}
use Rattle.gx_num.specs.declared.Number.{Number}
use Rattle.gx_facets.specs.declared.Atomic.{Atomic}
use Rattle.gx_facets.specs.declared.AtomValue.{AtomValue}
use Rattle.gx_facets.specs.declared.AtomValue.TheVariants.{Untyped, Str, Truth, Num}
use Rattle.gx_sorting.specs.ValueOrder.{value_cmp}
use Rattle.gx_sorting.proofs.Comparisons.{value_in_order, value_cmp_total}
use Rattle.gx_atomic.specs.Comparison.{value_comparison}
use Rattle.gx_atomic.specs.declared.comparison.Op.{Op}
use Rattle.gx_atomic.specs.declared.comparison.Op.TheVariants.{Lt, Gt}
use Rattle.gx_funcs.specs.Numbers.{number_of_value, number_first, numbers_of_values, compares, foremost}
use Rattle.gx_funcs.specs.ValueLaws.{IsFirstOfForemost, ForemostNumbersAreFirst}

-- ---- numbers in the order of all values

abbrev less : Atomic → Atomic → Bool
less a b = is_lt (value_cmp a.value b.value)

abbrev greater : Atomic → Atomic → Bool
greater a b = is_lt (value_cmp b.value a.value)

less_strictly : IsStrictWeakOrder less
less_strictly = ranks_by value_cmp_total (λ (a : Atomic). a.value)

greater_strictly : IsStrictWeakOrder greater
greater_strictly = ranks_by (back_total value_cmp_total) (λ (a : Atomic). a.value)

abbrev IsNumber : Atomic → Type 0
IsNumber a = is_some (number_of_value a.value) ≡ true

turned : (r s : Ordering) → r ≡ ordering_reverse s → is_gt r ≡ is_lt s
turned r Less e = ap is_gt e
turned r Equal e = ap is_gt e
turned r Greater e = ap is_gt e

compared_less : (v w : AtomValue) → is_some (number_of_value v) ≡ true → is_some (number_of_value w) ≡ true → unwrap_or (value_comparison Lt v w) false ≡ is_lt (value_cmp v w)
compared_less (Num m) (Num n) h k = ap is_lt (sym (value_in_order (Num m) (Num n) _ refl))
compared_less (Num m) (Untyped t) h k = absurd (cc)
compared_less (Num m) (Str t) h k = absurd (cc)
compared_less (Num m) (Truth b) h k = absurd (cc)
compared_less (Untyped t) w h k = absurd (cc)
compared_less (Str t) w h k = absurd (cc)
compared_less (Truth b) w h k = absurd (cc)

compared_greater : (v w : AtomValue) → is_some (number_of_value v) ≡ true → is_some (number_of_value w) ≡ true → unwrap_or (value_comparison Gt v w) false ≡ is_lt (value_cmp w v)
compared_greater (Num m) (Num n) h k = ap is_gt (sym (value_in_order (Num m) (Num n) _ refl)) ∙ turned (value_cmp (Num m) (Num n)) (value_cmp (Num n) (Num m)) (value_cmp_total.antisymm (Num m) (Num n))
compared_greater (Num m) (Untyped t) h k = absurd (cc)
compared_greater (Num m) (Str t) h k = absurd (cc)
compared_greater (Num m) (Truth b) h k = absurd (cc)
compared_greater (Untyped t) w h k = absurd (cc)
compared_greater (Str t) w h k = absurd (cc)
compared_greater (Truth b) w h k = absurd (cc)

-- ---- lists of numbers

first_number : (a : Atomic) (values : List Atomic) → is_some (numbers_of_values (a ∷ values)) ≡ true → IsNumber a
first_number a values h = by (number_of_value a.value) (numbers_of_values values) h
  where
    by : (m : Option Number) (o : Option (List Number)) → is_some (number_first m o) ≡ true → is_some m ≡ true
    by None o e = e
    by (Some m) o e = refl

other_numbers : (a : Atomic) (values : List Atomic) → is_some (numbers_of_values (a ∷ values)) ≡ true → is_some (numbers_of_values values) ≡ true
other_numbers a values h = by (number_of_value a.value) (numbers_of_values values) h
  where
    by : (m : Option Number) (o : Option (List Number)) → is_some (number_first m o) ≡ true → is_some o ≡ true
    by None None e = e
    by None (Some ns) e = refl
    by (Some m) None e = e
    by (Some m) (Some ns) e = refl

numbers_with : (a : Atomic) (values : List Atomic) → IsNumber a → is_some (numbers_of_values values) ≡ true → is_some (numbers_of_values (a ∷ values)) ≡ true
numbers_with a values h k = by (number_of_value a.value) (numbers_of_values values) h k
  where
    by : (m : Option Number) (o : Option (List Number)) → is_some m ≡ true → is_some o ≡ true → is_some (number_first m o) ≡ true
    by None o e f = e
    by (Some m) None e f = f
    by (Some m) (Some ns) e f = refl

number_at : (values : List Atomic) → is_some (numbers_of_values values) ≡ true → (k : ℕ) (d : Atomic) → k < length values → IsNumber (slice_index_or values k d)
number_at [] h k d l = absurd (omega arith)
number_at (a ∷ values) h zero d l = first_number a values h
number_at (a ∷ values) h (suc k) d l = number_at values (other_numbers a values h) k d (omega arith)

-- ---- where two tests agree on numbers

abbrev Agree : Op → (Atomic → Atomic → Bool) → Type 0
Agree op test = (a b : Atomic) → IsNumber a → IsNumber b → compares op a b ≡ test a b

foremost_is_best : (op : Op) (test : Atomic → Atomic → Bool) → Agree op test → (a : Atomic) (values : List Atomic) → is_some (numbers_of_values (a ∷ values)) ≡ true → foremost op a values ≡ best_of test a values
foremost_is_best op test agree a [] h = refl
foremost_is_best op test agree a (b ∷ values) h =
    let one : IsNumber a = first_number a (b ∷ values) h in
    let others : is_some (numbers_of_values (b ∷ values)) ≡ true = other_numbers a (b ∷ values) h in
    let two : IsNumber b = first_number b values others in
    let rest : is_some (numbers_of_values values) ≡ true = other_numbers b values others in
    by (compares op b a) (sym (agree b a two one)) (foremost_is_best op test agree b values others) (foremost_is_best op test agree a values (numbers_with a values one rest))
  where
    by : (c : Bool) → test b a ≡ c → foremost op b values ≡ best_of test b values → foremost op a values ≡ best_of test a values
        → foremost op (if c then b else a) values ≡ best_of test (cond (test b a) b a) values
    by true e stays goes = stays ∙ ap (λ (t : Bool). best_of test (cond t b a) values) (sym e)
    by false e stays goes = goes ∙ ap (λ (t : Bool). best_of test (cond t b a) values) (sym e)

same_at : (values : List Atomic) (k : ℕ) (d e : Atomic) → k < length values → slice_index_or values k d ≡ slice_index_or values k e
same_at [] k d e l = absurd (omega arith)
same_at (a ∷ values) zero d e l = refl
same_at (a ∷ values) (suc k) d e l = same_at values k d e (omega arith)

first_of_foremost : (op : Op) (test : Atomic → Atomic → Bool) → Agree op test → IsStrictWeakOrder test → (a : Atomic) (values : List Atomic) → is_some (numbers_of_values (a ∷ values)) ≡ true
    → IsFirstOfForemost op (a ∷ values) (foremost op a values)
first_of_foremost op test agree strict a values h =
    let best = IsFirstBest-from_best_of strict a values in
    let place : ℕ = best.0 in
    let number = number_at (a ∷ values) h in
    let same : foremost op a values ≡ best_of test a values = foremost_is_best op test agree a values h in
    let is = best.1 in (
      place,
      (
        (
          is.0,
          λ k d l. agree (slice_index_or (a ∷ values) k d) (slice_index_or (a ∷ values) place d) (number k d l) (number place d is.0) ∙ is.1 k d l,
          λ k d l. agree (slice_index_or (a ∷ values) place d) (slice_index_or (a ∷ values) k d) (number place d is.0) (number k d (omega (arith, is.0))) ∙ is.2 k d l,
        ),
        same_at (a ∷ values) place (foremost op a values) a is.0 ∙ best.2 ∙ sym same,
      ),
    )

pub first_of_foremost_numbers : ForemostNumbersAreFirst
first_of_foremost_numbers = record {
  least = first_of_foremost Lt less (λ a b h k. compared_less a.value b.value h k) less_strictly;
  greatest = first_of_foremost Gt greater (λ a b h k. compared_greater a.value b.value h k) greater_strictly;
}
