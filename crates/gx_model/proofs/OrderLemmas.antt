-- Document order is total, and agrees with how nodes are compared.
use Rattle.std.proofs.Common.{◌≡◌, ℕ, Bool, true, false, ◌&&◌, nat_eq, nat_lt, List, [], ◌∷◌, ◌⊎◌, inl, inr, Option, None, Some, refl, sym, ap, ◌∙◌, arith, if◌then◌else◌}
use Rattle.std.proofs.lemmas.Bool.{eqb-true, ltb-true, true≢false, and_parts}
use Rattle.std.specs.declared.cmp.Ordering.{Ordering}
use Rattle.std.specs.declared.cmp.Ordering.TheVariants.{Less, Equal, Greater}
use Rattle.std.specs.Ordering.{is_lt, nat_cmp, ordering_then, ordering_reverse}
use Rattle.std.specs.Option.{option_eq, option_cmp}
use Rattle.std.specs.Cmp.{IsTotalOrder, then_total, on_total, nat_cmp_total}
use Rattle.std.specs.Cmp.Lexicographic.{pointwise, slice_cmp, nat_list_cmp_total, options_total}
use Rattle.gx_model.specs.Forest.{PlainNode}
use Rattle.gx_model.specs.Axes.{same_position}
use Rattle.gx_model.specs.DocumentOrder.{attribute_comes_first, path_comes_first, comes_before, same_node}
use Rattle.gx_model.specs.NodeOrder.{node_eq, node_cmp}
use Rattle.gx_model.specs.OrderLaws.{DocumentOrderIsTotal}
use Rattle.gx_model.proofs.LocationLemmas.{nat_is_itself}

-- ---- the order of nodes is total

pub node_order : IsTotalOrder node_cmp
node_order = then_total (then_total (on_total (λ n. n.tree) nat_cmp_total) (on_total (λ n. n.path) nat_list_cmp_total)) (on_total (λ n. n.attribute) (options_total nat_cmp_total))

-- ---- it is document order

grouped : (a b c : Ordering) → ordering_then (ordering_then a b) c ≡ ordering_then a (ordering_then b c)
grouped Less b c = refl
grouped Equal b c = refl
grouped Greater b c = refl

less_if : (m n : ℕ) (o : Ordering) (below same : Bool) → nat_lt m n ≡ below → nat_eq m n ≡ same
    → is_lt (ordering_then (nat_cmp m n) o) ≡ (if nat_eq m n then is_lt o else nat_lt m n)
less_if m n o true true e f = let h = ltb-true m n e in let g = eqb-true m n f in absurd (omega (arith, h, g))
less_if m n o true false e f = rw (e, f) refl
less_if m n o false true e f = rw (e, f) refl
less_if m n o false false e f = rw (e, f) refl

less_is : (m n : ℕ) (o : Ordering) → is_lt (ordering_then (nat_cmp m n) o) ≡ (if nat_eq m n then is_lt o else nat_lt m n)
less_is m n o = less_if m n o (nat_lt m n) (nat_eq m n) refl refl

position_only : (m n : ℕ) → nat_lt m n ≡ is_lt (nat_cmp m n)
position_only m n = by_test (nat_lt m n) (nat_eq m n) refl refl
  where
    by_test : (below same : Bool) → nat_lt m n ≡ below → nat_eq m n ≡ same → nat_lt m n ≡ is_lt (nat_cmp m n)
    by_test true same e f = rw e refl
    by_test false true e f = rw (e, f) refl
    by_test false false e f = rw (e, f) refl

attribute_is : (a b : Option ℕ) → attribute_comes_first a b ≡ is_lt (option_cmp nat_cmp a b)
attribute_is None None = refl
attribute_is None (Some n) = refl
attribute_is (Some m) None = refl
attribute_is (Some m) (Some n) = position_only m n

path_is : (p : List ℕ) (a : Option ℕ) (q : List ℕ) (b : Option ℕ) → path_comes_first p a q b ≡ is_lt (ordering_then (slice_cmp nat_cmp p q) (option_cmp nat_cmp a b))
path_is [] a [] b = attribute_is a b
path_is [] a (n ∷ q) b = refl
path_is (m ∷ p) a [] b = refl
path_is (m ∷ p) a (n ∷ q) b =
    ap (λ (c : Bool). if nat_eq m n then c else nat_lt m n) (path_is p a q b)
    ∙ sym (less_is m n (ordering_then (slice_cmp nat_cmp p q) (option_cmp nat_cmp a b)))
    ∙ ap is_lt (sym (grouped (nat_cmp m n) (slice_cmp nat_cmp p q) (option_cmp nat_cmp a b)))

pub before_is : (a b : PlainNode) → comes_before a b ≡ is_lt (node_cmp a b)
before_is a b =
    ap (λ (c : Bool). if nat_eq a.tree b.tree then c else nat_lt a.tree b.tree) (path_is a.path a.attribute b.path b.attribute)
    ∙ sym (less_is a.tree b.tree (ordering_then (slice_cmp nat_cmp a.path b.path) (option_cmp nat_cmp a.attribute b.attribute)))
    ∙ ap is_lt (sym (grouped (nat_cmp a.tree b.tree) (slice_cmp nat_cmp a.path b.path) (option_cmp nat_cmp a.attribute b.attribute)))

less_from : (o : Ordering) → is_lt o ≡ true → o ≡ Less
less_from Less e = refl
less_from Equal e = absurd (cc)
less_from Greater e = absurd (cc)

pub less_when_before : (a b : PlainNode) → comes_before a b ≡ true → node_cmp a b ≡ Less
less_when_before a b h = less_from (node_cmp a b) (sym (before_is a b) ∙ h)

pub before_when_less : (a b : PlainNode) → node_cmp a b ≡ Less → comes_before a b ≡ true
before_when_less a b h = before_is a b ∙ ap is_lt h

-- ---- the same node

same_place_is : (a b : Option ℕ) → same_position a b ≡ option_eq nat_eq a b
same_place_is None None = refl
same_place_is None (Some n) = refl
same_place_is (Some m) None = refl
same_place_is (Some m) (Some n) = refl

pub same_is_equal : (a b : PlainNode) → same_node a b ≡ node_eq a b
same_is_equal a b = ap (λ (c : Bool). (nat_eq a.tree b.tree && pointwise nat_eq a.path b.path) && c) (same_place_is a.attribute b.attribute)

paths_same : (p q : List ℕ) → pointwise nat_eq p q ≡ true → p ≡ q
paths_same [] [] h = refl
paths_same [] (n ∷ q) h = absurd (cc)
paths_same (m ∷ p) [] h = absurd (cc)
paths_same (m ∷ p) (n ∷ q) h =
    let e = and_parts (nat_eq m n) (pointwise nat_eq p q) h in
    let same : m ≡ n = eqb-true m n e.0 in
    ap (λ k. k ∷ p) same ∙ ap (λ ps. n ∷ ps) (paths_same p q e.1)

positions_same : (a b : Option ℕ) → same_position a b ≡ true → a ≡ b
positions_same None None h = refl
positions_same None (Some n) h = absurd (cc)
positions_same (Some m) None h = absurd (cc)
positions_same (Some m) (Some n) h = ap (λ k. Some k) (eqb-true m n h)

pub nodes_same : (a b : PlainNode) → same_node a b ≡ true → a ≡ b
nodes_same a b h =
    let outer = and_parts (nat_eq a.tree b.tree && pointwise nat_eq a.path b.path) (same_position a.attribute b.attribute) h in
    let inner = and_parts (nat_eq a.tree b.tree) (pointwise nat_eq a.path b.path) outer.0 in
    let tree : a.tree ≡ b.tree = eqb-true a.tree b.tree inner.0 in
    let path : a.path ≡ b.path = paths_same a.path b.path inner.1 in
    let place : a.attribute ≡ b.attribute = positions_same a.attribute b.attribute outer.1 in
    λ i. record { tree = tree i; path = path i; attribute = place i }

path_itself : (p : List ℕ) → pointwise nat_eq p p ≡ true
path_itself [] = refl
path_itself (n ∷ p) = rw (nat_is_itself n) (path_itself p)

position_itself : (a : Option ℕ) → same_position a a ≡ true
position_itself None = refl
position_itself (Some n) = nat_is_itself n

pub node_itself : (a : PlainNode) → same_node a a ≡ true
node_itself a = rw (nat_is_itself a.tree, path_itself a.path) (position_itself a.attribute)

-- ---- the laws

pub not_before_itself : (a : PlainNode) → comes_before a a ≡ false
not_before_itself a = before_is a a ∙ even (node_cmp a a) (node_order.antisymm a a)
  where
    even : (o : Ordering) → o ≡ ordering_reverse o → is_lt o ≡ false
    even Less e = absurd (cc)
    even Equal e = refl
    even Greater e = refl

pub before_goes_on : (a b c : PlainNode) → comes_before a b ≡ true → comes_before b c ≡ true → comes_before a c ≡ true
before_goes_on a b c h g = before_when_less a c (node_order.trans a b c (less_when_before a b h) (less_when_before b c g))

pub never_both : (a b : PlainNode) → comes_before a b ≡ true → comes_before b a ≡ true → ⊥
never_both a b h g = let e = before_goes_on a b a h g in true≢false (sym e ∙ not_before_itself a)

equal_from_cmp : (m n : ℕ) → nat_cmp m n ≡ Equal → m ≡ n
equal_from_cmp m n e = by_test (nat_lt m n) (nat_eq m n) refl refl
  where
    by_test : (below same : Bool) → nat_lt m n ≡ below → nat_eq m n ≡ same → m ≡ n
    by_test true same f g = let k : nat_cmp m n ≡ Less = rw f refl in absurd (cc)
    by_test false true f g = eqb-true m n g
    by_test false false f g = let k : nat_cmp m n ≡ Greater = rw (f, g) refl in absurd (cc)

then_equal : (a b : Ordering) → ordering_then a b ≡ Equal → (a ≡ Equal) × (b ≡ Equal)
then_equal Less b e = absurd (cc)
then_equal Equal b e = (refl, e)
then_equal Greater b e = absurd (cc)

paths_equal : (p q : List ℕ) → slice_cmp nat_cmp p q ≡ Equal → p ≡ q
paths_equal [] [] e = refl
paths_equal [] (n ∷ q) e = absurd (cc)
paths_equal (m ∷ p) [] e = absurd (cc)
paths_equal (m ∷ p) (n ∷ q) e =
    let both = then_equal (nat_cmp m n) (slice_cmp nat_cmp p q) e in
    ap (λ k. k ∷ p) (equal_from_cmp m n both.0) ∙ ap (λ ps. n ∷ ps) (paths_equal p q both.1)

positions_equal : (a b : Option ℕ) → option_cmp nat_cmp a b ≡ Equal → a ≡ b
positions_equal None None e = refl
positions_equal None (Some n) e = absurd (cc)
positions_equal (Some m) None e = absurd (cc)
positions_equal (Some m) (Some n) e = ap (λ k. Some k) (equal_from_cmp m n e)

pub nodes_equal : (a b : PlainNode) → node_cmp a b ≡ Equal → a ≡ b
nodes_equal a b e =
    let outer = then_equal (ordering_then (nat_cmp a.tree b.tree) (slice_cmp nat_cmp a.path b.path)) (option_cmp nat_cmp a.attribute b.attribute) e in
    let inner = then_equal (nat_cmp a.tree b.tree) (slice_cmp nat_cmp a.path b.path) outer.0 in
    let tree : a.tree ≡ b.tree = equal_from_cmp a.tree b.tree inner.0 in
    let path : a.path ≡ b.path = paths_equal a.path b.path inner.1 in
    let place : a.attribute ≡ b.attribute = positions_equal a.attribute b.attribute outer.1 in
    λ i. record { tree = tree i; path = path i; attribute = place i }

one_of_three : (a b : PlainNode) (o : Ordering) → node_cmp a b ≡ o → (comes_before a b ≡ true) ⊎ ((a ≡ b) ⊎ (comes_before b a ≡ true))
one_of_three a b Less e = inl (before_when_less a b e)
one_of_three a b Equal e = inr (inl (nodes_equal a b e))
one_of_three a b Greater e = inr (inr (before_when_less b a (node_order.antisymm b a ∙ ap ordering_reverse e)))

pub order_is_total : DocumentOrderIsTotal
order_is_total = record { irreflexive = not_before_itself; transitive = before_goes_on; total = λ a b. one_of_three a b (node_cmp a b) refl }
