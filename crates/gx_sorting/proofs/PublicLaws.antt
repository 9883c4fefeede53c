-- The public laws as terms, for the proofs of the crates above.
use Rattle.std.proofs.Common.{refl, ap, ◌∙◌, None}
use Rattle.std.specs.Cmp.{tied_itself}
use Rattle.std.specs.Ordering.{ordering_reverse}
use Rattle.gx_sorting.specs.Laws.{EmptyKeysStandApart, ImagesAreSorted, KeysStandAsCompared, NumbersAreOfSortedTuples, OrdersAreTotal, SortingIsStable}
use Rattle.gx_sorting.proofs.Comparisons.{value_in_order, value_cmp_total, key_cmp_total, keys_cmp_total}
use Rattle.gx_sorting.proofs.Members.{sorted_permutes, length-sorted, sorted_stands}
pub use Rattle.gx_sorting.proofs.Members.{each_sorted, sorted_alike}
use Rattle.gx_sorting.proofs.Stable.{sorted_is_sorted, sorted_keeps_ties, stable_sort}
use Rattle.gx_sorting.proofs.Numbers.{numbers_stand}

pub keys_stand_as_compared : KeysStandAsCompared
keys_stand_as_compared = record {
  rising = λ greatest a b o e. value_in_order a b o e;
  falling = λ greatest a b o e. value_cmp_total.antisymm b a ∙ ap ordering_reverse (value_in_order a b o e);
}

pub empty_keys_stand_apart : EmptyKeysStandApart
empty_keys_stand_apart = record {
  least = λ value. refl;
  greatest = λ value. refl;
  least_descending = λ value. refl;
  greatest_descending = λ value. refl;
  alike = λ order. tied_itself (key_cmp_total order) None;
}

pub orders_are_total : OrdersAreTotal
orders_are_total = record { values = value_cmp_total; keys = key_cmp_total; rows = keys_cmp_total }

pub sorting_is_stable : (X : Type 0) → SortingIsStable X
sorting_is_stable X = record {
  elements = λ precedes. sorted_permutes precedes;
  count = λ precedes. length-sorted precedes;
  order = λ precedes strict. sorted_is_sorted precedes strict;
  ties = λ precedes strict xs x. sorted_keeps_ties precedes strict x xs;
  one = λ precedes strict. stable_sort precedes strict;
}

pub images_are_sorted : (X Y : Type 0) → ImagesAreSorted X Y
images_are_sorted X Y = sorted_stands

pub numbers_are_of_sorted_tuples : (T : Type 0) → NumbersAreOfSortedTuples T
numbers_are_of_sorted_tuples T orders keys_of = numbers_stand orders keys_of
