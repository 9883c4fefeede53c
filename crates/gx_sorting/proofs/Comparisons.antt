-- What comparisons of values and of keys answer, and that their orders are total.
use Rattle.std.proofs.Common.{◌≡◌, ◌≢◌, Bool, true, false, if◌then◌else◌, not, List, [], ◌∷◌, drop, refl, sym, ap, subst, ◌∙◌, Option, Some, None, MatchOption}
use Rattle.std.specs.declared.cmp.Ordering.{Ordering}
use Rattle.std.specs.declared.cmp.Ordering.TheVariants.{Less, Equal, Greater}
use Rattle.std.specs.Cmp.{IsTotalOrder, IsStrictWeakOrder, then_total, on_total, back_total, nat_cmp_total, int_cmp_total, bool_cmp_total}
use Rattle.std.specs.Cmp.Lexicographic.{nat_list_cmp_total}
use Rattle.std.specs.Ordering.{nat_cmp, bool_cmp, ordering_then, flip_args}
use Rattle.std.proofs.lemmas.List.Sorted.{ranks_by}
use Rattle.gx_base.specs.Text.{text_cmp}
use Rattle.gx_facets.specs.declared.Atomic.{Atomic}
use Rattle.gx_facets.specs.declared.AtomValue.{AtomValue}
use Rattle.gx_facets.specs.declared.AtomValue.TheVariants.{Untyped, Str, Truth, Num}
use Rattle.gx_facets.specs.Value.{order_of}
use Rattle.gx_sorting.specs.declared.keys.KeyOrder.{KeyOrder}
use Rattle.gx_sorting.specs.ValueOrder.{family_rank, text_within, truth_within, units_within, value_cmp}
use Rattle.gx_sorting.specs.KeyComparison.{presence, value_there, rising, key_cmp, leading_value, keys_cmp, keys_precede}

then_equal : (r : Ordering) → ordering_then r Equal ≡ r
then_equal Less = refl
then_equal Equal = refl
then_equal Greater = refl

-- values of one family stand as they are compared, and others as their families
pub compared_values : (a b : AtomValue) → MatchOption (order_of a b) (value_cmp a b ≡ nat_cmp (family_rank a) (family_rank b)) (λ o. value_cmp a b ≡ o)
compared_values (Untyped s) (Untyped t) = then_equal (text_cmp s t)
compared_values (Untyped s) (Str t) = then_equal (text_cmp s t)
compared_values (Untyped s) (Truth q) = refl
compared_values (Untyped s) (Num n) = refl
compared_values (Str s) (Untyped t) = then_equal (text_cmp s t)
compared_values (Str s) (Str t) = then_equal (text_cmp s t)
compared_values (Str s) (Truth q) = refl
compared_values (Str s) (Num n) = refl
compared_values (Truth p) (Untyped t) = refl
compared_values (Truth p) (Str t) = refl
compared_values (Truth p) (Truth q) = then_equal (bool_cmp p q)
compared_values (Truth p) (Num n) = refl
compared_values (Num m) (Untyped t) = refl
compared_values (Num m) (Str t) = refl
compared_values (Num m) (Truth q) = refl
compared_values (Num m) (Num n) = refl

pub value_in_order : (a b : AtomValue) (o : Ordering) → order_of a b ≡ Some o → value_cmp a b ≡ o
value_in_order a b o e = subst (λ found. MatchOption found (value_cmp a b ≡ nat_cmp (family_rank a) (family_rank b)) (λ o. value_cmp a b ≡ o)) e (compared_values a b)

pub empty_first : (greatest : Bool) (value : AtomValue) → rising greatest None (Some value) ≡ (if greatest then Greater else Less)
empty_first true value = refl
empty_first false value = refl

pub empty_second : (greatest : Bool) (value : AtomValue) → rising greatest (Some value) None ≡ (if not greatest then Greater else Less)
empty_second true value = refl
empty_second false value = refl

pub both_empty : (greatest : Bool) → rising greatest None None ≡ Equal
both_empty true = refl
both_empty false = refl

pub ruleset empty_keys = (empty_first, empty_second, both_empty)

pub first_keys_tie : (order : KeyOrder) (orders : List KeyOrder) (keys others : List (Option Atomic)) → key_cmp order (leading_value keys) (leading_value others) ≡ Equal
    → keys_cmp (order ∷ orders) keys others ≡ keys_cmp orders (drop 1 keys) (drop 1 others)
first_keys_tie order orders keys others e = ap (λ r. ordering_then r (keys_cmp orders (drop 1 keys) (drop 1 others))) e

stays_unequal : (r s : Ordering) → r ≢ Equal → ordering_then r s ≡ r
stays_unequal Less s h = refl
stays_unequal Equal s h = absurd (h refl)
stays_unequal Greater s h = refl

pub first_keys_differ : (order : KeyOrder) (orders : List KeyOrder) (keys others : List (Option Atomic)) (r : Ordering) → r ≡ key_cmp order (leading_value keys) (leading_value others) → r ≢ Equal
    → keys_cmp (order ∷ orders) keys others ≡ r
first_keys_differ order orders keys others r e h = ap (λ q. ordering_then q (keys_cmp orders (drop 1 keys) (drop 1 others))) (sym e) ∙ stays_unequal r (keys_cmp orders (drop 1 keys) (drop 1 others)) h

pub ruleset first_keys = (first_keys_tie, first_keys_differ)

-- ---- the orders are total

pub value_cmp_total : IsTotalOrder value_cmp
value_cmp_total =
    then_total (on_total family_rank nat_cmp_total)
    (then_total (on_total text_within nat_list_cmp_total) (then_total (on_total truth_within bool_cmp_total) (on_total units_within int_cmp_total)))

rising_total : (greatest : Bool) → IsTotalOrder (rising greatest)
rising_total greatest = then_total (on_total (presence greatest) nat_cmp_total) (on_total value_there value_cmp_total)

turned_total : {K : Type 0} (descending : Bool) (R : K → K → Ordering) → IsTotalOrder R → IsTotalOrder (if descending then flip_args R else R)
turned_total true R total = back_total total
turned_total false R total = total

pub key_cmp_total : (order : KeyOrder) → IsTotalOrder (key_cmp order)
key_cmp_total order = turned_total order.descending (rising order.greatest) (rising_total order.greatest)

pub keys_cmp_total : (orders : List KeyOrder) → IsTotalOrder (keys_cmp orders)
keys_cmp_total [] = record { antisymm = λ x y. refl; trans = λ x y z p q. p; congr = λ x y z p. refl }
keys_cmp_total (order ∷ orders) = then_total (on_total leading_value (key_cmp_total order)) (on_total (drop 1) (keys_cmp_total orders))

pub keys_precede_strictly : (orders : List KeyOrder) → IsStrictWeakOrder (keys_precede orders)
keys_precede_strictly orders = ranks_by (keys_cmp_total orders) (λ keys. keys)
