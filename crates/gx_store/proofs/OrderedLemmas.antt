-- Numbers in order are nodes in document order.
use Rattle.std.proofs.Common.{◌≡◌, ℕ, Bool, true, false, ◌||◌, ltb, nat_eq, nat_lt, cond, List, [], ◌∷◌, ◌++◌, map, filter, refl, sym, ap, ◌∙◌, arith, subst}
use Rattle.std.specs.Prelude.{is_some}
use Rattle.std.specs.List.{list_any, dedup, dedup_from, AllByRecursion}
use Rattle.std.specs.List.Sorted.{IsSorted, IsStrictlySortedBy}
use Rattle.std.specs.Cmp.{both_ways}
use Rattle.std.specs.Ordering.{is_eq, eq_by_cmp, nat_cmp}
use Rattle.std.specs.declared.cmp.Ordering.{Ordering}
use Rattle.std.specs.declared.cmp.Ordering.TheVariants.{Less, Equal, Greater}
use Rattle.std.proofs.lemmas.Cmp.{tied_itself}
use Rattle.std.proofs.lemmas.Bool.{eqb-true, eq-eqb, ltb-true, ltb-false, lt-ltb, and_parts}
use Rattle.std.proofs.lemmas.List.Kept.{IsStrictlySortedBy-dedup}
use Rattle.std.proofs.lemmas.List.Elements.{filter_agree}
use Rattle.gx_model.specs.Forest.{Forest, PlainNode, node_in}
use Rattle.gx_model.specs.DocumentOrder.{comes_before, same_node, in_document_order}
use Rattle.gx_model.specs.Growth.{Extends}
use Rattle.gx_model.specs.OrderLaws.{Every, Ascends}
use Rattle.gx_model.proofs.ListLemmas.{filter_mapped}
use Rattle.gx_model.proofs.Ordering.{kept_in_order}
use Rattle.gx_nodes.specs.Entries.{count_in, place_of_number}
use Rattle.gx_nodes.proofs.NumberOrder.{before_is}
use Rattle.gx_nodes.proofs.FoundLemmas.{node_found, entry_stays, place_is_not_there}
use Rattle.gx_store.specs.declared.number.NodeId.{NodeId}
use Rattle.gx_store.specs.NumberOrder.{number_eq, number_cmp, numbers_are_ordered, number_lt, numbers_ascend}

-- each below the next

pub every_goes_on : (x y : NodeId) (xs : List NodeId) → number_lt x y ≡ true → Every (λ z. number_lt y z ≡ true) xs → Every (λ z. number_lt x z ≡ true) xs
every_goes_on x y [] h e = tt
every_goes_on x y (z ∷ xs) h e =
    (lt-ltb x.number z.number (omega (arith, ltb-true x.number y.number h, ltb-true y.number z.number e.0)), every_goes_on x y xs h e.1)

pub ascends_whole : (xs : List NodeId) → numbers_ascend xs ≡ true → Ascends number_lt xs
ascends_whole [] e = tt
ascends_whole (x ∷ []) e = (tt, tt)
ascends_whole (x ∷ y ∷ xs) e =
    let both = and_parts (number_lt x y) (numbers_ascend (y ∷ xs)) e in
    let rest = ascends_whole (y ∷ xs) both.1 in
    ((both.0, every_goes_on x y xs both.0 rest.0), rest)

below_when_less : (m n : ℕ) → nat_cmp m n ≡ Less → nat_lt m n ≡ true
below_when_less m n e = by_test (nat_lt m n) (nat_eq m n) refl refl
  where
    by_test : (below same : Bool) → nat_lt m n ≡ below → nat_eq m n ≡ same → nat_lt m n ≡ true
    by_test true same f g = f
    by_test false true f g = let k : nat_cmp m n ≡ Equal = rw (f, g) refl in absurd (cc)
    by_test false false f g = let k : nat_cmp m n ≡ Greater = rw (f, g) refl in absurd (cc)

every_less : (x : NodeId) (xs : List NodeId) → AllByRecursion (λ y. number_cmp x y ≡ Less) xs → Every (λ y. number_lt x y ≡ true) xs
every_less x [] h = tt
every_less x (y ∷ xs) h = (below_when_less x.number y.number h.0, every_less x xs h.1)

sorted_ascends : (xs : List NodeId) → IsStrictlySortedBy number_cmp xs → Ascends number_lt xs
unfolding IsStrictlySortedBy
sorted_ascends [] h = tt
sorted_ascends (x ∷ xs) h = (every_less x xs h.0, sorted_ascends xs h.1)

equal_from_cmp : (m n : ℕ) → nat_cmp m n ≡ Equal → m ≡ n
equal_from_cmp m n e = by_test (nat_lt m n) (nat_eq m n) refl refl
  where
    by_test : (below same : Bool) → nat_lt m n ≡ below → nat_eq m n ≡ same → m ≡ n
    by_test true same f g = let k : nat_cmp m n ≡ Less = rw f refl in absurd (cc)
    by_test false true f g = eqb-true m n g
    by_test false false f g = let k : nat_cmp m n ≡ Greater = rw (f, g) refl in absurd (cc)

pub one_number : (a b : NodeId) → a.number ≡ b.number → a ≡ b
one_number a b e = λ i. record { number = e i }

equal_as_compared : (a b : NodeId) → number_eq a b ≡ eq_by_cmp number_cmp a b
equal_as_compared a b = both_ways (number_eq a b) (eq_by_cmp number_cmp a b)
    (λ e. subst (λ (w : NodeId). eq_by_cmp number_cmp a w ≡ true) (one_number a b (eqb-true a.number b.number e)) (ap is_eq (tied_itself numbers_are_ordered a)))
    (λ e. eq-eqb a.number b.number (equal_from_cmp a.number b.number (equal_from (number_cmp a b) e)))
  where
    equal_from : (o : Ordering) → is_eq o ≡ true → o ≡ Equal
    equal_from Less e = absurd (cc)
    equal_from Equal e = refl
    equal_from Greater e = absurd (cc)

pub sorted_without_doubles : (xs ys : List NodeId) → IsSorted number_cmp xs → ys ≡ dedup number_eq xs → Ascends number_lt ys
sorted_without_doubles xs ys h e = subst (Ascends number_lt) (sym e) (sorted_ascends (dedup number_eq xs) (IsStrictlySortedBy-dedup numbers_are_ordered equal_as_compared xs h))

in_deduped_if : (p : NodeId → Bool) (k x : NodeId) (xs : List NodeId) (b : Bool) → number_eq x k ≡ b → list_any p (dedup_from number_eq k xs) ≡ (p k || list_any p xs)
    → list_any p (dedup_from number_eq x xs) ≡ (p x || list_any p xs)
    → list_any p (cond b (dedup_from number_eq k xs) (k ∷ dedup_from number_eq x xs)) ≡ (p k || (p x || list_any p xs))
in_deduped_if p k x xs true e h g =
    let same : x ≡ k = one_number x k (eqb-true x.number k.number e) in
    h ∙ absorbed (p k) (list_any p xs) ∙ sym (ap (λ (w : NodeId). p k || (p w || list_any p xs)) same)
  where
    absorbed : (a b : Bool) → (a || b) ≡ (a || (a || b))
    absorbed true b = refl
    absorbed false b = refl
in_deduped_if p k x xs false e h g = ap (λ (c : Bool). p k || c) g

in_deduped_from : (p : NodeId → Bool) (k : NodeId) (xs : List NodeId) → list_any p (dedup_from number_eq k xs) ≡ (p k || list_any p xs)
in_deduped_from p k [] = refl
in_deduped_from p k (x ∷ xs) = in_deduped_if p k x xs (number_eq x k) refl (in_deduped_from p k xs) (in_deduped_from p x xs)

pub in_deduped : (p : NodeId → Bool) (xs : List NodeId) → list_any p (dedup number_eq xs) ≡ list_any p xs
in_deduped p [] = refl
in_deduped p (x ∷ xs) = in_deduped_from p x xs

-- as nodes

abbrev pub placed : Forest → NodeId → PlainNode
placed later m = place_of_number later m.number

every_placed : (later : Forest) (x : NodeId) (xs : List NodeId) → Every (λ y. number_lt x y ≡ true) xs → Every (λ p. comes_before (placed later x) p ≡ true) (map (placed later) xs)
every_placed later x [] h = tt
every_placed later x (y ∷ xs) h = (before_is later x.number y.number ∙ h.0, every_placed later x xs h.1)

pub ascends_placed : (later : Forest) (xs : List NodeId) → Ascends number_lt xs → Ascends comes_before (map (placed later) xs)
ascends_placed later [] h = tt
ascends_placed later (x ∷ xs) h = (every_placed later x xs h.0, ascends_placed later xs h.1)

pub any_placed : (later : Forest) (p : PlainNode → Bool) (xs : List NodeId) → list_any p (map (placed later) xs) ≡ list_any (λ m. p (placed later m)) xs
any_placed later p [] = refl
any_placed later p (x ∷ xs) = ap (λ (b : Bool). p (placed later x) || b) (any_placed later p xs)

pub there_where_below : (forest later : Forest) (n : ℕ) → Extends forest later → is_some (node_in forest (place_of_number later n)) ≡ nat_lt n (count_in forest)
there_where_below forest later n x = subst (λ (f : Forest). is_some (node_in forest (place_of_number f n)) ≡ nat_lt n (count_in forest)) (sym x.is) (by_count (ltb n (count_in forest)) refl)
  where
    by_count : (b : Bool) → ltb n (count_in forest) ≡ b → is_some (node_in forest (place_of_number (forest ++ x.more) n)) ≡ nat_lt n (count_in forest)
    by_count true e =
        let h = ltb-true n (count_in forest) e in
        let same : place_of_number (forest ++ x.more) n ≡ place_of_number forest n = ap (λ y. y.place) (entry_stays forest x.more n h) in
        ap (λ (p : PlainNode). is_some (node_in forest p)) same ∙ ap is_some (node_found forest n h) ∙ sym e
    by_count false e = ap is_some (place_is_not_there forest x.more n (ltb-false n (count_in forest) e)) ∙ sym e

-- ascending numbers with the same members, less those that are not there
pub ordered_numbers : (forest later : Forest) (nodes sorted : List NodeId) → Extends forest later → Ascends number_lt sorted → ((p : NodeId → Bool) → list_any p sorted ≡ list_any p nodes)
    → map (placed later) (filter (λ m. nat_lt m.number (count_in forest)) sorted) ≡ in_document_order forest (map (placed later) nodes)
ordered_numbers forest later nodes sorted x h e =
    ap (map (placed later)) (filter_agree (λ (m : NodeId). nat_lt m.number (count_in forest)) (λ m. is_some (node_in forest (placed later m))) (λ m. sym (there_where_below forest later m.number x)) sorted)
    ∙ sym (filter_mapped (λ n. is_some (node_in forest n)) (placed later) sorted)
    ∙ kept_in_order forest (map (placed later) nodes) (map (placed later) sorted) (ascends_placed later sorted h)
    (λ n. any_placed later (same_node n) sorted ∙ e (λ m. same_node n (placed later m)) ∙ sym (any_placed later (same_node n) nodes))
