-- Sorting the numbers of tuples sorts the tuples.
use Rattle.std.proofs.Common.{◌≡◌, ℕ, zero, suc, ◌+◌, ◌*◌, ◌<◌, ◌≤◌, Bool, false, List, [], ◌∷◌, ◌++◌, map, length, drop, refl, sym, ap, ◌∙◌, Option, Some, None, slice_get, flat_map, arith, suc-mul, zero-mul}
use Rattle.std.specs.declared.cmp.Ordering.{Ordering}
use Rattle.std.specs.Cmp.{IsStrictWeakOrder}
use Rattle.std.specs.Fn.{Called, ComparesAs}
use Rattle.std.specs.List.{AllByRecursion, range_with_len}
use Rattle.std.specs.List.Sorted.{IsSortedByClosure, IsStableByClosure}
use Rattle.std.specs.Ordering.{ordering_then, is_lt}
use Rattle.std.proofs.Math.Seq.{drop-append-add}
use Rattle.std.proofs.lemmas.Fn.{always_returns_same}
use Rattle.std.proofs.lemmas.List.Sorted.{ranks_by}
use Rattle.std.proofs.lemmas.Simd.{map-map}
use Rattle.gx_facets.specs.declared.Atomic.{Atomic}
use Rattle.gx_sorting.specs.declared.keys.KeyOrder.{KeyOrder}
use Rattle.gx_sorting.specs.KeyComparison.{leading_value, key_cmp, keys_cmp, keys_precede}
use Rattle.gx_sorting.specs.Sorting.{sorted}
use Rattle.gx_sorting.specs.Tuples.{keys_from, tuple_precedes}
use Rattle.gx_sorting.proofs.Comparisons.{keys_cmp_total}
use Rattle.gx_sorting.proofs.Members.{sorted_stands, sorted_alike}
use Rattle.gx_sorting.proofs.Stable.{stable_sort}
use denote.Param.Members.{Mut}
use denote.Ref.{Bor}

pub tuple_precedes_strictly : (orders : List KeyOrder) (keys : List (Option Atomic)) → IsStrictWeakOrder (tuple_precedes orders keys)
tuple_precedes_strictly orders keys = ranks_by (keys_cmp_total orders) (keys_from orders keys)

-- what `sort_by` gives, where each call compares the keys of two tuples
pub sorted_by_keys : (orders : List KeyOrder) (keys : List (Option Atomic)) {F : Type 0} {g : Mut F (Bor ℕ × (Bor ℕ × Unit {0})) Ordering} {f : F} (numbers result : List ℕ)
    → IsSortedByClosure g f result → IsStableByClosure g f numbers result
    → ((a : Bor ℕ × (Bor ℕ × Unit {0})) (r : Ordering) (f' : F) → Called g f a r f' → (r ≡ keys_cmp orders (keys_from orders keys a.0.now) (keys_from orders keys a.1.0.now)) × (f' ≡ f))
    → result ≡ sorted (tuple_precedes orders keys) numbers
sorted_by_keys orders keys {g = g} {f = f} numbers result up stable calls =
    let strict = tuple_precedes_strictly orders keys in
    let compares : ComparesAs g (tuple_precedes orders keys) f = always_returns_same g (λ a r. is_lt r ≡ tuple_precedes orders keys a.0.now a.1.0.now) f (λ a r f' k. (ap is_lt (calls a r f' k).0, (calls a r f' k).1)) in
    stable_sort (tuple_precedes orders keys) strict numbers result (up (tuple_precedes orders keys) strict compares) (stable (tuple_precedes orders keys) strict compares)

-- ---- only as many keys count as there are orders

leading_value_alone : (key : Option Atomic) (keys others : List (Option Atomic)) → leading_value (key ∷ keys) ≡ leading_value (key ∷ others)
leading_value_alone None keys others = refl
leading_value_alone (Some atomic) keys others = refl

pub own_keys_decide : (orders : List KeyOrder) (keys more others behind : List (Option Atomic)) → length keys ≡ length orders → length others ≡ length orders
    → keys_cmp orders (keys ++ more) (others ++ behind) ≡ keys_cmp orders keys others
own_keys_decide [] keys more others behind p q = refl
own_keys_decide (order ∷ orders) [] more others behind p q = absurd (omega arith)
own_keys_decide (order ∷ orders) (key ∷ keys) more [] behind p q = absurd (omega arith)
own_keys_decide (order ∷ orders) (key ∷ keys) more (other ∷ others) behind p q =
    let rest = own_keys_decide orders keys more others behind (omega arith) (omega arith) in
    λ i. ordering_then (key_cmp order (leading_value_alone key (keys ++ more) keys i) (leading_value_alone other (others ++ behind) others i)) (rest i)

-- ---- the numbers stand for the tuples

numbers_behind : (a n : ℕ) → range_with_len (suc a) n ≡ map suc (range_with_len a n)
numbers_behind a zero = refl
numbers_behind a (suc n) =
    let e : suc a + 1 ≡ suc (a + 1) = omega arith in
    ap (λ k. suc a ∷ range_with_len k n) e ∙ ap (λ l. suc a ∷ l) (numbers_behind (a + 1) n)

tuples_of_numbers : {T : Type 0} (tuples : List T) → map (slice_get tuples) (range_with_len 0 (length tuples)) ≡ map Some tuples
tuples_of_numbers [] = refl
tuples_of_numbers (t ∷ tuples) =
    ap (λ l. Some t ∷ map (slice_get (t ∷ tuples)) l) (numbers_behind 0 (length tuples))
    ∙ ap (λ l. Some t ∷ l) (map-map (slice_get (t ∷ tuples)) suc (range_with_len 0 (length tuples)) ∙ tuples_of_numbers tuples)

numbers_are_below : (a n most : ℕ) → a + n ≤ most → AllByRecursion (λ k. k < most) (range_with_len a n)
numbers_are_below a zero most h = tt
numbers_are_below a (suc n) most h = (omega arith, numbers_are_below (a + 1) n most (omega arith))

module _ {T : Type 0} (orders : List KeyOrder) (keys_of : T → List (Option Atomic)) where
  -- each tuple has a key for each order
  abbrev HasKeys : T → Type 0
  HasKeys t = length (keys_of t) ≡ length orders

  record IsTupleAt (tuples : List T) (number : ℕ) : Type 0 where
    tuple : T
    more : List (Option Atomic)
    there : slice_get tuples number ≡ Some tuple
    width : HasKeys tuple
    keys : keys_from orders (flat_map keys_of tuples) number ≡ keys_of tuple ++ more

  tuple_at : (tuples : List T) (number : ℕ) → AllByRecursion HasKeys tuples → number < length tuples → IsTupleAt tuples number
  tuple_at [] number h below = absurd (omega arith)
  tuple_at (t ∷ tuples) zero h below = record { tuple = t; more = flat_map keys_of tuples; there = refl; width = h.0; keys = ap (λ n. drop n (keys_of t ++ flat_map keys_of tuples)) (zero-mul (length orders)) }
  tuple_at (t ∷ tuples) (suc number) h below =
      let behind = tuple_at tuples number h.1 (omega arith) in
      let w = length orders in
      let e : suc number * w ≡ length (keys_of t) + number * w = omega (arith, suc-mul number w, h.0) in
      record {
        tuple = behind.tuple;
        more = behind.more;
        there = behind.there;
        width = behind.width;
        keys = ap (λ n. drop n (keys_of t ++ flat_map keys_of tuples)) e ∙ drop-append-add (keys_of t) (flat_map keys_of tuples) (number * w) ∙ behind.keys;
      }

  abbrev precedes : T → T → Bool
  precedes t u = keys_precede orders (keys_of t) (keys_of u)

  abbrev precedes_if_there : Option T → Option T → Bool
  precedes_if_there None b = false
  precedes_if_there (Some t) None = false
  precedes_if_there (Some t) (Some u) = precedes t u

  agree_at : (tuples : List T) → AllByRecursion HasKeys tuples → (m n : ℕ) → m < length tuples → n < length tuples
      → tuple_precedes orders (flat_map keys_of tuples) m n ≡ precedes_if_there (slice_get tuples m) (slice_get tuples n)
  agree_at tuples h m n p q =
      let a = tuple_at tuples m h p in
      let b = tuple_at tuples n h q in
      (λ i. keys_precede orders (a.keys i) (b.keys i))
      ∙ ap is_lt (own_keys_decide orders (keys_of a.tuple) a.more (keys_of b.tuple) b.more a.width b.width)
      ∙ (λ i. precedes_if_there (sym a.there i) (sym b.there i))

  pub numbers_stand : (tuples : List T) → AllByRecursion HasKeys tuples
      → map (slice_get tuples) (sorted (tuple_precedes orders (flat_map keys_of tuples)) (range_with_len 0 (length tuples))) ≡ map Some (sorted precedes tuples)
  numbers_stand tuples h =
      ap (map (slice_get tuples)) (sorted_alike (tuple_precedes orders (flat_map keys_of tuples)) (λ m n. precedes_if_there (slice_get tuples m) (slice_get tuples n)) (λ n. n < length tuples) (agree_at tuples h)
      (range_with_len 0 (length tuples)) (numbers_are_below 0 (length tuples) (length tuples) (omega arith)))
      ∙ sorted_stands (slice_get tuples) precedes_if_there (range_with_len 0 (length tuples))
      ∙ ap (sorted precedes_if_there) (tuples_of_numbers tuples)
      ∙ sym (sorted_stands Some precedes_if_there tuples)
