-- The laws of sorting by keys.
use Rattle.std.specs.Prelude.{◌≡◌, Bool, true, false, List, map, length, flat_map, Option, Some, None, slice_get, IsPermutation, IsSortedBy}
use Rattle.std.specs.declared.cmp.Ordering.{Ordering}
use Rattle.std.specs.declared.cmp.Ordering.TheVariants.{Less, Equal, Greater}
use Rattle.std.specs.Cmp.{IsTotalOrder, IsStrictWeakOrder}
use Rattle.std.specs.List.{AllByRecursion, range_with_len}
use Rattle.std.specs.List.Sorted.{IsStableBy}
use Rattle.std.specs.Ordering.{ordering_reverse}
use Rattle.gx_facets.specs.declared.Atomic.{Atomic}
use Rattle.gx_facets.specs.declared.AtomValue.{AtomValue}
use Rattle.gx_facets.specs.Value.{order_of}
use Rattle.gx_sorting.specs.declared.keys.KeyOrder.{KeyOrder}
use Rattle.gx_sorting.specs.ValueOrder.{value_cmp}
use Rattle.gx_sorting.specs.KeyComparison.{key_cmp, keys_cmp, keys_precede}
use Rattle.gx_sorting.specs.Sorting.{sorted}
use Rattle.gx_sorting.specs.Tuples.{tuple_precedes}

abbrev pub ascending : Bool → KeyOrder
ascending greatest = record { descending = false; greatest = greatest }

abbrev pub descending : Bool → KeyOrder
descending greatest = record { descending = true; greatest = greatest }

-- values that are compared stand in that order, or where it descends in the other one
pub record KeysStandAsCompared : Type 0 where
  pub rising : (greatest : Bool) (a b : AtomValue) (o : Ordering) → order_of a b ≡ Some o → key_cmp (ascending greatest) (Some a) (Some b) ≡ o
  pub falling : (greatest : Bool) (a b : AtomValue) (o : Ordering) → order_of a b ≡ Some o → key_cmp (descending greatest) (Some a) (Some b) ≡ ordering_reverse o

-- the empty key stands where the order says
pub record EmptyKeysStandApart : Type 0 where
  pub least : (value : AtomValue) → key_cmp (ascending false) None (Some value) ≡ Less
  pub greatest : (value : AtomValue) → key_cmp (ascending true) None (Some value) ≡ Greater
  pub least_descending : (value : AtomValue) → key_cmp (descending false) None (Some value) ≡ Greater
  pub greatest_descending : (value : AtomValue) → key_cmp (descending true) None (Some value) ≡ Less
  pub alike : (order : KeyOrder) → key_cmp order None None ≡ Equal

-- any values, any keys and any rows of keys compare
pub record OrdersAreTotal : Type 0 where
  pub values : IsTotalOrder value_cmp
  pub keys : (order : KeyOrder) → IsTotalOrder (key_cmp order)
  pub rows : (orders : List KeyOrder) → IsTotalOrder (keys_cmp orders)

-- what is sorted has the elements of the list, in order, with ties as they stood; and nothing else is
pub record SortingIsStable (X : Type 0) : Type 0 where
  pub elements : (precedes : X → X → Bool) (xs : List X) → IsPermutation xs (sorted precedes xs)
  pub count : (precedes : X → X → Bool) (xs : List X) → length (sorted precedes xs) ≡ length xs
  pub order : (precedes : X → X → Bool) → IsStrictWeakOrder precedes → (xs : List X) → IsSortedBy precedes (sorted precedes xs)
  pub ties : (precedes : X → X → Bool) → IsStrictWeakOrder precedes → (xs : List X) → IsStableBy precedes xs (sorted precedes xs)
  pub one : (precedes : X → X → Bool) → IsStrictWeakOrder precedes → (xs ys : List X) → IsSortedBy precedes ys → IsStableBy precedes xs ys → ys ≡ sorted precedes xs

-- sorting by what f makes of the elements sorts what f makes
abbrev pub ImagesAreSorted : Type 0 → Type 0 → Type 0
ImagesAreSorted X Y = (f : X → Y) (precedes : Y → Y → Bool) (xs : List X) → map f (sorted (λ x y. precedes (f x) (f y)) xs) ≡ sorted precedes (map f xs)

-- where each tuple has a key for each order, the numbers are those of the sorted tuples
abbrev pub NumbersAreOfSortedTuples : Type 0 → Type 0
NumbersAreOfSortedTuples T =
    (orders : List KeyOrder) (keys_of : T → List (Option Atomic)) (tuples : List T) → AllByRecursion (λ t. length (keys_of t) ≡ length orders) tuples
    → map (slice_get tuples) (sorted (tuple_precedes orders (flat_map keys_of tuples)) (range_with_len 0 (length tuples)))
    ≡ map Some (sorted (λ t u. keys_precede orders (keys_of t) (keys_of u)) tuples)
