-- Nodes that ascend are those of the forest that are among them.
use Rattle.std.proofs.Common.{◌≡◌, Bool, true, false, ◌&&◌, ◌||◌, cond, List, [], ◌∷◌, filter, refl, sym, ap, ◌∙◌, subst}
use Rattle.std.specs.Prelude.{is_some}
use Rattle.std.specs.List.{list_any, dedup, dedup_from, AllByRecursion}
use Rattle.std.specs.List.Sorted.{IsSorted, IsStrictlySortedBy}
use Rattle.std.specs.Cmp.{both_ways}
use Rattle.std.specs.Ordering.{is_eq, eq_by_cmp}
use Rattle.std.proofs.lemmas.Cmp.{tied_itself}
use Rattle.std.proofs.lemmas.List.Kept.{IsStrictlySortedBy-dedup}
use Rattle.std.specs.declared.cmp.Ordering.{Ordering}
use Rattle.std.proofs.lemmas.Bool.{true≢false, and_parts}
use Rattle.std.specs.declared.cmp.Ordering.TheVariants.{Less, Equal, Greater}
use Rattle.gx_model.specs.Forest.{Forest, PlainNode, node_in}
use Rattle.gx_model.specs.DocumentOrder.{comes_before, nodes_from, same_node, in_document_order, ascends}
use Rattle.gx_model.specs.NodeOrder.{node_eq, node_cmp}
use Rattle.gx_model.specs.OrderLaws.{Every, Ascends, OrderedNodesAscend}
use Rattle.gx_model.proofs.OrderLemmas.{node_order, nodes_equal, before_when_less, before_goes_on, never_both, not_before_itself, nodes_same, node_itself, same_is_equal}
use Rattle.gx_model.proofs.ListedNodes.{listed_where_there, nodes_ascend}

abbrev pub is_in : PlainNode → List PlainNode → Bool
is_in n xs = list_any (same_node n) xs

-- ---- what is filtered

filtered_if : (p : PlainNode → Bool) (n x : PlainNode) (xs : List PlainNode) (b : Bool) (rest : Bool) → p x ≡ b → is_in n (filter p xs) ≡ (p n && is_in n xs) → same_node n x ≡ rest
    → is_in n (cond b (x ∷ filter p xs) (filter p xs)) ≡ (p n && (rest || is_in n xs))
filtered_if p n x xs true true e h s =
    let same : n ≡ x = nodes_same n x s in
    ap (λ (c : Bool). c || is_in n (filter p xs)) s ∙ sym (ap (λ (c : Bool). c && true) (ap p same ∙ e))
filtered_if p n x xs true false e h s = ap (λ (c : Bool). c || is_in n (filter p xs)) s ∙ h
filtered_if p n x xs false true e h s =
    let same : n ≡ x = nodes_same n x s in
    let none : p n ≡ false = ap p same ∙ e in
    h ∙ ap (λ (c : Bool). c && is_in n xs) none ∙ sym (ap (λ (c : Bool). c && true) none)
filtered_if p n x xs false false e h s = h

pub in_filtered : (p : PlainNode → Bool) (n : PlainNode) (xs : List PlainNode) → is_in n (filter p xs) ≡ (p n && is_in n xs)
in_filtered p n [] = never (p n)
  where
    never : (b : Bool) → false ≡ (b && false)
    never true = refl
    never false = refl
in_filtered p n (x ∷ xs) =
    filtered_if p n x xs (p x) (same_node n x) refl (in_filtered p n xs) refl

every_kept : {A : Type 0} (P : A → Type 0) (b : Bool) (x : A) (xs : List A) → P x → Every P xs → Every P (cond b (x ∷ xs) xs)
every_kept P true x xs h rest = (h, rest)
every_kept P false x xs h rest = rest

every_filtered : {A : Type 0} (P : A → Type 0) (p : A → Bool) (xs : List A) → Every P xs → Every P (filter p xs)
every_filtered P p [] h = tt
every_filtered P p (x ∷ xs) h = every_kept P (p x) x (filter p xs) h.0 (every_filtered P p xs h.1)

ascends_kept : {A : Type 0} (before : A → A → Bool) (b : Bool) (x : A) (xs : List A) → Every (λ y. before x y ≡ true) xs → Ascends before xs → Ascends before (cond b (x ∷ xs) xs)
ascends_kept before true x xs h rest = (h, rest)
ascends_kept before false x xs h rest = rest

pub ascends_filtered : {A : Type 0} (before : A → A → Bool) (p : A → Bool) (xs : List A) → Ascends before xs → Ascends before (filter p xs)
ascends_filtered before p [] h = tt
ascends_filtered before p (x ∷ xs) h = ascends_kept before (p x) x (filter p xs) (every_filtered (λ y. before x y ≡ true) p xs h.0) (ascends_filtered before p xs h.1)

-- ---- one list for each set of nodes

is_later_if : (x y z : PlainNode) (xs : List PlainNode) (b : Bool) → same_node y z ≡ b → comes_before x z ≡ true → is_in y (z ∷ xs) ≡ true → (is_in y xs ≡ true → comes_before x y ≡ true) → comes_before x y ≡ true
is_later_if x y z xs true s h e next = subst (λ (w : PlainNode). comes_before x w ≡ true) (sym (nodes_same y z s)) h
is_later_if x y z xs false s h e next = next (sym (ap (λ (c : Bool). c || is_in y xs) s) ∙ e)

is_later : (x y : PlainNode) (xs : List PlainNode) → Every (λ z. comes_before x z ≡ true) xs → is_in y xs ≡ true → comes_before x y ≡ true
is_later x y [] h e = absurd (cc)
is_later x y (z ∷ xs) h e = is_later_if x y z xs (same_node y z) refl h.0 e (is_later x y xs h.1)

not_among_later : (x : PlainNode) (xs : List PlainNode) → Every (λ z. comes_before x z ≡ true) xs → is_in x xs ≡ false
not_among_later x xs h = by_test (is_in x xs) refl
  where
    by_test : (b : Bool) → is_in x xs ≡ b → is_in x xs ≡ false
    by_test true e = absurd (true≢false (sym (is_later x x xs h e) ∙ not_before_itself x))
    by_test false e = e

is_head : (x : PlainNode) (xs : List PlainNode) → is_in x (x ∷ xs) ≡ true
is_head x xs = ap (λ (c : Bool). c || is_in x xs) (node_itself x)

heads_same : (x y : PlainNode) (xs ys : List PlainNode) → Every (λ z. comes_before x z ≡ true) xs → Every (λ z. comes_before y z ≡ true) ys
    → is_in x (y ∷ ys) ≡ true → is_in y (x ∷ xs) ≡ true → x ≡ y
heads_same x y xs ys h g e f = by_test (same_node x y) refl (same_node y x) refl
  where
    by_test : (b : Bool) → same_node x y ≡ b → (c : Bool) → same_node y x ≡ c → x ≡ y
    by_test true s c t = nodes_same x y s
    by_test false s true t = sym (nodes_same y x t)
    by_test false s false t =
        absurd (never_both y x (is_later y x ys g (sym (ap (λ (c : Bool). c || is_in x ys) s) ∙ e)) (is_later x y xs h (sym (ap (λ (c : Bool). c || is_in y xs) t) ∙ f)))

tails_same : (n x : PlainNode) (xs ys : List PlainNode) → Every (λ z. comes_before x z ≡ true) xs → Every (λ z. comes_before x z ≡ true) ys → is_in n (x ∷ xs) ≡ is_in n (x ∷ ys) → is_in n xs ≡ is_in n ys
tails_same n x xs ys h g e = by_test (same_node n x) refl
  where
    by_test : (b : Bool) → same_node n x ≡ b → is_in n xs ≡ is_in n ys
    by_test true s =
        let same : n ≡ x = nodes_same n x s in
        subst (λ (m : PlainNode). is_in m xs ≡ is_in m ys) (sym same) (not_among_later x xs h ∙ sym (not_among_later x ys g))
    by_test false s = sym (ap (λ (c : Bool). c || is_in n xs) s) ∙ e ∙ ap (λ (c : Bool). c || is_in n ys) s

pub same_nodes : (xs ys : List PlainNode) → Ascends comes_before xs → Ascends comes_before ys → ((n : PlainNode) → is_in n xs ≡ is_in n ys) → xs ≡ ys
same_nodes [] [] h g e = refl
same_nodes [] (y ∷ ys) h g e = absurd (true≢false (sym (is_head y ys) ∙ sym (e y)))
same_nodes (x ∷ xs) [] h g e = absurd (true≢false (sym (is_head x xs) ∙ e x))
same_nodes (x ∷ xs) (y ∷ ys) h g e =
    let same : x ≡ y = heads_same x y xs ys h.0 g.0 (sym (e x) ∙ is_head x xs) (e y ∙ is_head y ys) in
    let later : Every (λ z. comes_before x z ≡ true) ys = subst (λ (w : PlainNode). Every (λ z. comes_before w z ≡ true) ys) (sym same) g.0 in
    let rest : xs ≡ ys = same_nodes xs ys h.1 g.1 (λ n. tails_same n x xs ys h.0 later (e n ∙ ap (λ (w : PlainNode). is_in n (w ∷ ys)) (sym same))) in
    ap (λ (w : PlainNode). w ∷ xs) same ∙ ap (λ (zs : List PlainNode). y ∷ zs) rest

-- ---- nodes put in order

pub ordered_ascend : OrderedNodesAscend
ordered_ascend forest nodes = ascends_filtered comes_before (λ n. is_in n nodes) (nodes_from 0 forest) (nodes_ascend forest)

turned : (a b : Bool) → (a && b) ≡ (b && a)
turned true true = refl
turned true false = refl
turned false true = refl
turned false false = refl

pub kept_in_order : (forest : Forest) (nodes sorted : List PlainNode) → Ascends comes_before sorted → ((n : PlainNode) → is_in n sorted ≡ is_in n nodes)
    → filter (λ n. is_some (node_in forest n)) sorted ≡ in_document_order forest nodes
kept_in_order forest nodes sorted h e =
    same_nodes (filter (λ n. is_some (node_in forest n)) sorted) (in_document_order forest nodes) (ascends_filtered comes_before (λ n. is_some (node_in forest n)) sorted h) (ordered_ascend forest nodes)
    (λ n. in_filtered (λ m. is_some (node_in forest m)) n sorted ∙ turned (is_some (node_in forest n)) (is_in n sorted)
    ∙ ap (λ (b : Bool). b && is_some (node_in forest n)) (e n) ∙ ap (λ (b : Bool). is_in n nodes && b) (sym (listed_where_there forest n)) ∙ sym (in_filtered (λ m. is_in m nodes) n (nodes_from 0 forest)))

-- nodes of which each comes before the next
every_goes_on : (x y : PlainNode) (xs : List PlainNode) → comes_before x y ≡ true → Every (λ z. comes_before y z ≡ true) xs → Every (λ z. comes_before x z ≡ true) xs
every_goes_on x y [] h e = tt
every_goes_on x y (z ∷ xs) h e = (before_goes_on x y z h e.0, every_goes_on x y xs h e.1)

pub ascends_whole : (xs : List PlainNode) → ascends xs ≡ true → Ascends comes_before xs
ascends_whole [] e = tt
ascends_whole (x ∷ []) e = (tt, tt)
ascends_whole (x ∷ y ∷ xs) e =
    let both = and_parts (comes_before x y) (ascends (y ∷ xs)) e in
    let rest = ascends_whole (y ∷ xs) both.1 in
    ((both.0, every_goes_on x y xs both.0 rest.0), rest)

-- nodes that were sorted, each once
every_less : (x : PlainNode) (xs : List PlainNode) → AllByRecursion (λ y. node_cmp x y ≡ Less) xs → Every (λ y. comes_before x y ≡ true) xs
every_less x [] h = tt
every_less x (y ∷ xs) h = (before_when_less x y h.0, every_less x xs h.1)

pub sorted_ascends : (xs : List PlainNode) → IsStrictlySortedBy node_cmp xs → Ascends comes_before xs
unfolding IsStrictlySortedBy
sorted_ascends [] h = tt
sorted_ascends (x ∷ xs) h = (every_less x xs h.0, sorted_ascends xs h.1)

equal_as_compared : (a b : PlainNode) → node_eq a b ≡ eq_by_cmp node_cmp a b
equal_as_compared a b = both_ways (node_eq a b) (eq_by_cmp node_cmp a b)
    (λ e. let same : a ≡ b = nodes_same a b (same_is_equal a b ∙ e) in subst (λ (w : PlainNode). eq_by_cmp node_cmp a w ≡ true) same (ap is_eq (tied_itself node_order a)))
    (λ e. let same : a ≡ b = nodes_equal a b (equal_from (node_cmp a b) e) in subst (λ (w : PlainNode). node_eq a w ≡ true) same (sym (same_is_equal a a) ∙ node_itself a))
  where
    equal_from : (o : Ordering) → is_eq o ≡ true → o ≡ Equal
    equal_from Less e = absurd (cc)
    equal_from Equal e = refl
    equal_from Greater e = absurd (cc)

pub sorted_without_doubles : (xs ys : List PlainNode) → IsSorted node_cmp xs → ys ≡ dedup node_eq xs → Ascends comes_before ys
sorted_without_doubles xs ys h e = subst (Ascends comes_before) (sym e) (sorted_ascends (dedup node_eq xs) (IsStrictlySortedBy-dedup node_order equal_as_compared xs h))

absorbed : (a b : Bool) → (a ≡ true → b ≡ true) → (a || b) ≡ b
absorbed true b h = sym (h refl)
absorbed false b h = refl

in_deduped_if : (n k x : PlainNode) (xs : List PlainNode) (b : Bool) → node_eq x k ≡ b → is_in n (dedup_from node_eq k xs) ≡ (same_node n k || is_in n xs)
    → is_in n (dedup_from node_eq x xs) ≡ (same_node n x || is_in n xs)
    → is_in n (cond b (dedup_from node_eq k xs) (k ∷ dedup_from node_eq x xs)) ≡ (same_node n k || (same_node n x || is_in n xs))
in_deduped_if n k x xs true e h g =
    let same : x ≡ k = nodes_same x k (same_is_equal x k ∙ e) in
    h ∙ sym (ap (λ (w : PlainNode). same_node n k || (same_node n w || is_in n xs)) same ∙ absorbed (same_node n k) (same_node n k || is_in n xs) (λ s. ap (λ (c : Bool). c || is_in n xs) s))
in_deduped_if n k x xs false e h g = ap (λ (c : Bool). same_node n k || c) g

in_deduped_from : (n k : PlainNode) (xs : List PlainNode) → is_in n (dedup_from node_eq k xs) ≡ (same_node n k || is_in n xs)
in_deduped_from n k [] = refl
in_deduped_from n k (x ∷ xs) = in_deduped_if n k x xs (node_eq x k) refl (in_deduped_from n k xs) (in_deduped_from n x xs)

pub in_deduped : (n : PlainNode) (xs : List PlainNode) → is_in n (dedup node_eq xs) ≡ is_in n xs
in_deduped n [] = refl
in_deduped n (x ∷ xs) = in_deduped_from n x xs
