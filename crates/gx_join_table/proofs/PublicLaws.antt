-- The public laws as terms, for the proofs of the crates above.
use Rattle.std.proofs.Common.{◌≡◌, ℕ, zero, suc, ◌+◌, Bool, true, false, ◌||◌, nat_eq, cond, List, [], ◌∷◌, map, filter, Option, Some, slice_get, if◌then◌else◌, refl, sym, ap, ◌∙◌, arith}
use Rattle.std.specs.List.{list_any}
use Rattle.std.specs.Option.{option_map_or}
use Rattle.std.proofs.lemmas.Bool.{eq-eqb}
use Rattle.gx_atomic.specs.JoinKey.{same_key}
use Rattle.gx_join_table.specs.Joining.{numbers_from, have_equal_keys}
use Rattle.gx_join_table.specs.Laws.{EqualKeysAreEqualValues, RowsAreThoseThatMeet, ItemsFoundAreThoseThatMeet}
use Rattle.gx_join_table.proofs.AscendingLemmas.{differs, not_there}
use Rattle.gx_join_table.proofs.Comparing.{equal_where_keys_are}
use Rattle.gx_join_table.proofs.NumberLemmas.{numbers_ascend}

-- the item at a place passes where its number is found
found_at_place : {A : Type 0} (first : ℕ) (test : A → Bool) (xs : List A) (place : ℕ)
    → list_any (nat_eq (first + place)) (numbers_from first test xs) ≡ option_map_or test (slice_get xs place) false
found_at_place first test [] place = refl
found_at_place first test (x ∷ xs) zero = by_test (test x)
  where
    by_test : (b : Bool) → list_any (nat_eq (first + 0)) (if b then first ∷ numbers_from (suc first) test xs else numbers_from (suc first) test xs) ≡ b
    by_test true = ap (λ (c : Bool). c || list_any (nat_eq (first + 0)) (numbers_from (suc first) test xs)) (eq-eqb (first + 0) first (omega arith))
    by_test false = not_there (suc first) (first + 0) (numbers_from (suc first) test xs) (omega arith) (numbers_ascend (suc first) test xs)
found_at_place first test (x ∷ xs) (suc place) = by_test (test x) (found_at_place (suc first) test xs place)
  where
    number : suc first + place ≡ first + suc place
    number = omega arith

    by_test : (b : Bool) → list_any (nat_eq (suc first + place)) (numbers_from (suc first) test xs) ≡ option_map_or test (slice_get xs place) false
        → list_any (nat_eq (first + suc place)) (if b then first ∷ numbers_from (suc first) test xs else numbers_from (suc first) test xs) ≡ option_map_or test (slice_get xs place) false
    by_test true h =
        ap (λ (c : Bool). c || list_any (nat_eq (first + suc place)) (numbers_from (suc first) test xs)) (differs (first + suc place) first (omega arith))
        ∙ ap (λ (n : ℕ). list_any (nat_eq n) (numbers_from (suc first) test xs)) (sym number) ∙ h
    by_test false h = ap (λ (n : ℕ). list_any (nat_eq n) (numbers_from (suc first) test xs)) (sym number) ∙ h

-- the items that have the numbers, where each item has its number
items_at_numbers : {A B : Type 0} (item_at : ℕ → Option A) (first : ℕ) (test : B → Bool) (image : A → B) (xs : List A)
    → ((place : ℕ) → item_at (first + place) ≡ slice_get xs place) → map item_at (numbers_from first test (map image xs)) ≡ map Some (filter (λ x. test (image x)) xs)
items_at_numbers item_at first test image [] h = refl
items_at_numbers item_at first test image (x ∷ xs) h =
    by_test (test (image x)) (items_at_numbers item_at (suc first) test image xs (λ place. ap item_at (number place) ∙ h (suc place)))
  where
    number : (place : ℕ) → suc first + place ≡ first + suc place
    number place = omega arith

    itself : item_at first ≡ Some x
    itself = ap item_at (let e : first ≡ first + 0 = omega arith in e) ∙ h 0

    by_test : (b : Bool) → map item_at (numbers_from (suc first) test (map image xs)) ≡ map Some (filter (λ y. test (image y)) xs)
        → map item_at (if b then first ∷ numbers_from (suc first) test (map image xs) else numbers_from (suc first) test (map image xs))
        ≡ map Some (cond b (x ∷ filter (λ y. test (image y)) xs) (filter (λ y. test (image y)) xs))
    by_test true e = λ i. itself i ∷ e i
    by_test false e = e

pub rows_are_those_that_meet : RowsAreThoseThatMeet
rows_are_those_that_meet = record {
  ascending = λ keys rows. numbers_ascend 0 (have_equal_keys same_key keys) rows;
  members = λ keys rows n.
      ap (λ (m : ℕ). list_any (nat_eq m) (numbers_from 0 (have_equal_keys same_key keys) rows)) (let e : n ≡ 0 + n = omega arith in e) ∙ found_at_place 0 (have_equal_keys same_key keys) rows n;
}

pub items_found_are_those_that_meet : {A : Type 0} → ItemsFoundAreThoseThatMeet A
items_found_are_those_that_meet {A} = λ keys keys_of items.
    items_at_numbers (slice_get items) 0 (have_equal_keys same_key keys) keys_of items (λ place. ap (slice_get items) (let e : 0 + place ≡ place = omega arith in e))

pub equal_keys_are_equal_values : EqualKeysAreEqualValues
equal_keys_are_equal_values = equal_where_keys_are
