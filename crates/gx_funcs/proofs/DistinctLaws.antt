-- Distinct values: none is equal to another, each value is equal to one, and the first of equals stays.
use Rattle.std.proofs.Common.{◌≡◌, Bool, true, false, cond, not, ◌++◌, List, [], ◌∷◌, refl, sym, ◌∙◌, ap}
use Rattle.std.specs.Prelude.{filter, ◌||◌}
use Rattle.std.specs.List.{IsDistinct, AllByRecursion, list_any}
use Rattle.std.proofs.lemmas.List.Elements.{filter-append}
use Rattle.gx_facets.specs.declared.Atomic.{Atomic}
use Rattle.gx_atomic.specs.EqualValues.{values_are_equivalent}
use Rattle.gx_funcs.specs.Distinct.{are_equal_values, distinct_values}
use Rattle.gx_funcs.specs.ValueLaws.{DistinctValuesStandOnce}

abbrev differs : Atomic → Atomic → Bool
differs a b = not (are_equal_values a b)

all_filtered : (P : Atomic → Type 0) (p : Atomic → Bool) (xs : List Atomic) → AllByRecursion P xs → AllByRecursion P (filter p xs)
all_filtered P p [] h = h
all_filtered P p (x ∷ xs) h = by (p x) (all_filtered P p xs h.1)
  where
    by : (b : Bool) → AllByRecursion P (filter p xs) → AllByRecursion P (cond b (x ∷ filter p xs) (filter p xs))
    by true rest = (h.0, rest)
    by false rest = rest

all_differ : (a : Atomic) (xs : List Atomic) → AllByRecursion (λ b. are_equal_values a b ≡ false) (filter (differs a) xs)
all_differ a [] = tt
all_differ a (x ∷ xs) = by (are_equal_values a x) refl (all_differ a xs)
  where
    by : (r : Bool) → are_equal_values a x ≡ r → AllByRecursion (λ b. are_equal_values a b ≡ false) (filter (differs a) xs)
        → AllByRecursion (λ b. are_equal_values a b ≡ false) (cond (not r) (x ∷ filter (differs a) xs) (filter (differs a) xs))
    by true e rest = rest
    by false e rest = (e, rest)

one_kept : (x : Atomic) (xs : List Atomic) (b : Bool) → AllByRecursion (λ y. are_equal_values x y ≡ false) xs → IsDistinct are_equal_values xs → IsDistinct are_equal_values (cond b (x ∷ xs) xs)
unfolding IsDistinct
one_kept x xs true h k = (h, k)
one_kept x xs false h k = k

distinct_filtered : (p : Atomic → Bool) (xs : List Atomic) → IsDistinct are_equal_values xs → IsDistinct are_equal_values (filter p xs)
unfolding IsDistinct
distinct_filtered p [] h = h
distinct_filtered p (x ∷ xs) h = one_kept x (filter p xs) (p x) (all_filtered (λ y. are_equal_values x y ≡ false) p xs h.0) (distinct_filtered p xs h.1)

distinct_apart : (values : List Atomic) → IsDistinct are_equal_values (distinct_values values)
unfolding IsDistinct
distinct_apart [] = tt
distinct_apart (a ∷ values) = (all_differ a (distinct_values values), distinct_filtered (differs a) (distinct_values values) (distinct_apart values))

-- what is not equal to one is found among those that are not equal to it
among_others : (a b : Atomic) → are_equal_values b a ≡ false → (xs : List Atomic) → list_any (are_equal_values b) (filter (differs a) xs) ≡ list_any (are_equal_values b) xs
among_others a b h [] = refl
among_others a b h (x ∷ xs) = by (are_equal_values a x) refl (among_others a b h xs)
  where
    others : List Atomic
    others = filter (differs a) xs

    by : (r : Bool) → are_equal_values a x ≡ r → list_any (are_equal_values b) others ≡ list_any (are_equal_values b) xs
        → list_any (are_equal_values b) (cond (not r) (x ∷ others) others) ≡ (are_equal_values b x || list_any (are_equal_values b) xs)
    by true e rest =
        let unequal : are_equal_values b x ≡ false = values_are_equivalent.symm b.value x.value ∙ sym (values_are_equivalent.congr a.value x.value b.value e) ∙ values_are_equivalent.symm a.value b.value ∙ h in
        rest ∙ ap (λ (k : Bool). k || list_any (are_equal_values b) xs) (sym unequal)
    by false e rest = ap (λ (k : Bool). are_equal_values b x || k) rest

distinct_kept : (values : List Atomic) (a : Atomic) → list_any (are_equal_values a) (distinct_values values) ≡ list_any (are_equal_values a) values
distinct_kept [] a = refl
distinct_kept (b ∷ values) a = by (are_equal_values a b) refl (distinct_kept values a)
  where
    by : (r : Bool) → are_equal_values a b ≡ r → list_any (are_equal_values a) (distinct_values values) ≡ list_any (are_equal_values a) values
        → (r || list_any (are_equal_values a) (filter (differs b) (distinct_values values))) ≡ (r || list_any (are_equal_values a) values)
    by true e rest = refl
    by false e rest = among_others b a e (distinct_values values) ∙ rest

distinct_first : (values more : List Atomic) → (later : List Atomic) × (distinct_values (values ++ more) ≡ distinct_values values ++ later)
distinct_first [] more = (distinct_values more, refl)
distinct_first (a ∷ values) more =
    let rest = distinct_first values more in
    (filter (differs a) rest.0, ap (λ (l : List Atomic). a ∷ filter (differs a) l) rest.1 ∙ ap (λ (l : List Atomic). a ∷ l) (filter-append (differs a) (distinct_values values) rest.0))

pub each_stands_once : DistinctValuesStandOnce
each_stands_once = record { apart = distinct_apart; kept = distinct_kept; first = distinct_first }
