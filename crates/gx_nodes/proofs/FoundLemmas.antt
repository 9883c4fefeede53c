-- A number stands for a node of the forest where it is one of the list, and for none past it.
use Rattle.std.proofs.Common.{◌≡◌, ℕ, zero, suc, ◌+◌, ◌-◌, ◌<◌, ◌≤◌, Bool, true, false, ltb, List, [], ◌∷◌, ◌++◌, length, get_or, Option, None, Some, refl, sym, ap, ◌∙◌, arith, subst, length-append, append_assoc}
use Rattle.std.specs.List.{slice_get}
use Rattle.std.specs.Option.{option_map}
use Rattle.std.proofs.lemmas.Bool.{ltb-true, ltb-false}
use Rattle.std.proofs.lemmas.Option.{slice_get_past}
use Rattle.gx_tree.specs.declared.attribute.Attribute.{Attribute}
use Rattle.gx_tree.specs.PlainTree.{PlainTree, PlainTrees, document, element, attribute, text, no_trees, a_tree, list_of}
use Rattle.gx_model.specs.Forest.{Forest, PlainNode, then_found, children_of, own_attributes, tree_at, attribute_at, node_in}
use Rattle.gx_nodes.specs.Entries.{NodeEntry, count_below, attribute_entries, entries_of, child_entries, entries_from, node_entries, count_in, beyond, entry_in, place_of_number}
use Rattle.gx_nodes.proofs.Standing.{EachFrom, each_append, each_at, got_within, got_past, got_from, got_before, within_from}
use Rattle.gx_nodes.proofs.EntryLemmas.{got_entry}

-- the node_entries of a tree are what stands at their places
pub record IsFound (root : PlainTree) (number : ℕ) (e : NodeEntry) : Type 0 where
  pub numbered : e.place.tree ≡ number
  pub found : then_found (tree_at root e.place.path) (attribute_at e.place.attribute) ≡ Some e.tree

pub tree_behind : (t : PlainTree) (path rest : List ℕ) → tree_at t (path ++ rest) ≡ then_found (tree_at t path) (λ u. tree_at u rest)
tree_behind t [] rest = refl
tree_behind t (n ∷ path) rest = behind (λ c. tree_behind c path rest) (slice_get (children_of t) n)
  where
    behind : ((c : PlainTree) → tree_at c (path ++ rest) ≡ then_found (tree_at c path) (λ u. tree_at u rest)) → (found : Option PlainTree)
        → then_found found (λ c. tree_at c (path ++ rest)) ≡ then_found (then_found found (λ c. tree_at c path)) (λ u. tree_at u rest)
    behind below None = refl
    behind below (Some c) = below c

pub child_found : (root t u : PlainTree) (path : List ℕ) (position : ℕ) → tree_at root path ≡ Some t → slice_get (children_of t) position ≡ Some u → tree_at root (path ++ position ∷ []) ≡ Some u
child_found root t u path position e f =
    tree_behind root path (position ∷ [])
    ∙ ap (λ (o : Option PlainTree). then_found o (λ v. tree_at v (position ∷ []))) e
    ∙ ap (λ (o : Option PlainTree). then_found o (λ c. Some c)) f

attributes_found : (root t : PlainTree) (number : ℕ) (path : List ℕ) (position c : ℕ) (l : List Attribute) → tree_at root path ≡ Some t
    → ((i : ℕ) → slice_get (own_attributes t) (position + i) ≡ slice_get l i) → EachFrom (λ n e. IsFound root number e) c (attribute_entries number path position l)
attributes_found root t number path position c [] e h = tt
attributes_found root t number path position c (a ∷ l) e h = (
  record {
    numbered = refl;
    found = ap (λ (o : Option PlainTree). then_found o (attribute_at (Some position))) e
        ∙ ap (option_map attribute) (subst (λ (n : ℕ). slice_get (own_attributes t) n ≡ Some a) (omega arith) (h 0));
  },
  attributes_found root t number path (suc position) (suc c) l e (λ i. subst (λ (n : ℕ). slice_get (own_attributes t) n ≡ slice_get l i) (omega arith) (h (suc i))),
)

mutual
  tree_found : (root t : PlainTree) (number : ℕ) (path : List ℕ) (up c : ℕ) → tree_at root path ≡ Some t → EachFrom (λ n e. IsFound root number e) c (entries_of number path up t)
  tree_found root (document ts) number path up c e = (
    record { numbered = refl; found = ap (λ (o : Option PlainTree). then_found o (attribute_at None)) e },
    children_found root (document ts) number path 0 1 (suc c) ts e (λ i. ap (slice_get (list_of ts)) (omega arith)),
  )
  tree_found root (element n k l ts) number path up c e = (
    record { numbered = refl; found = ap (λ (o : Option PlainTree). then_found o (attribute_at None)) e },
    each_append (λ m x. IsFound root number x) (suc c) (suc c + length (attribute_entries number path 0 l)) (attribute_entries number path 0 l) (child_entries number path 0 (suc (length l)) ts) refl
        (attributes_found root (element n k l ts) number path 0 (suc c) l e (λ i. ap (slice_get l) (omega arith)))
        (children_found root (element n k l ts) number path 0 (suc (length l)) (suc c + length (attribute_entries number path 0 l)) ts e (λ i. ap (slice_get (list_of ts)) (omega arith))),
  )
  tree_found root (attribute a) number path up c e = (record { numbered = refl; found = ap (λ (o : Option PlainTree). then_found o (attribute_at None)) e }, tt)
  tree_found root (text x) number path up c e = (record { numbered = refl; found = ap (λ (o : Option PlainTree). then_found o (attribute_at None)) e }, tt)

  children_found : (root t : PlainTree) (number : ℕ) (path : List ℕ) (position up c : ℕ) (ts : PlainTrees) → tree_at root path ≡ Some t
      → ((i : ℕ) → slice_get (children_of t) (position + i) ≡ slice_get (list_of ts) i) → EachFrom (λ n e. IsFound root number e) c (child_entries number path position up ts)
  children_found root t number path position up c no_trees e h = tt
  children_found root t number path position up c (a_tree u ts) e h =
      each_append (λ m x. IsFound root number x) c (c + length (entries_of number (path ++ position ∷ []) up u)) (entries_of number (path ++ position ∷ []) up u)
      (child_entries number path (suc position) (up + suc (count_below u)) ts) refl
      (tree_found root u number (path ++ position ∷ []) up c (child_found root t u path position e (subst (λ (n : ℕ). slice_get (children_of t) n ≡ Some u) (omega arith) (h 0))))
      (children_found root t number path (suc position) (up + suc (count_below u)) (c + length (entries_of number (path ++ position ∷ []) up u)) ts e
      (λ i. subst (λ (n : ℕ). slice_get (children_of t) n ≡ slice_get (list_of ts) i) (omega arith) (h (suc i))))

-- in a forest

pub record IsThere (forest : Forest) (first : ℕ) (e : NodeEntry) : Type 0 where
  pub late : first ≤ e.place.tree
  pub there : node_in forest e.place ≡ Some e.tree

each_there : (forest : Forest) (root : PlainTree) (number first c : ℕ) (es : List NodeEntry) → slice_get forest number ≡ Some root → first ≤ number
    → EachFrom (λ n e. IsFound root number e) c es → EachFrom (λ n e. IsThere forest first e) c es
each_there forest root number first c [] g h f = tt
each_there forest root number first c (e ∷ es) g h f = (
  record {
    late = omega (arith, h, f.0.numbered);
    there = ap (λ (o : Option PlainTree). then_found o (λ t. then_found (tree_at t e.place.path) (attribute_at e.place.attribute))) (ap (slice_get forest) f.0.numbered ∙ g) ∙ f.0.found;
  },
  each_there forest root number first (suc c) es g h f.1,
)

trees_there : (forest trees : Forest) (number first c : ℕ) → first ≤ number → ((i : ℕ) → slice_get forest (number + i) ≡ slice_get trees i)
    → EachFrom (λ n e. IsThere forest first e) c (entries_from number trees)
trees_there forest [] number first c b h = tt
trees_there forest (t ∷ trees) number first c b h =
    let here : slice_get forest number ≡ Some t = subst (λ (n : ℕ). slice_get forest n ≡ Some t) (omega arith) (h 0) in
    each_append (λ n e. IsThere forest first e) c (c + length (entries_of number [] 0 t)) (entries_of number [] 0 t) (entries_from (suc number) trees) refl
    (each_there forest t number first c (entries_of number [] 0 t) here b (tree_found t t number [] 0 c refl))
    (trees_there forest trees (suc number) first (c + length (entries_of number [] 0 t)) (omega (arith, b)) (λ i. subst (λ (n : ℕ). slice_get forest n ≡ slice_get trees i) (omega arith) (h (suc i))))

pub node_found : (forest : Forest) (n : ℕ) → n < count_in forest → node_in forest (place_of_number forest n) ≡ Some (entry_in forest n).tree
node_found forest n h =
    let all = trees_there forest forest 0 0 0 (omega arith) (λ i. ap (slice_get forest) (omega arith)) in
    let got = each_at (λ n e. IsThere forest 0 e) 0 (node_entries forest) all n (entry_in forest n) (got_entry forest n h) in
    got.there

-- the tree of a node is one of the forest
pub tree_within : (forest : Forest) (n : ℕ) → n < count_in forest → (place_of_number forest n).tree < length forest
tree_within forest n h =
    let p : PlainNode = place_of_number forest n in
    by_tree (slice_get forest p.tree) refl (node_found forest n h)
  where
    by_tree : (found : Option PlainTree) → slice_get forest (place_of_number forest n).tree ≡ found
        → then_found (slice_get forest (place_of_number forest n).tree) (λ t. then_found (tree_at t (place_of_number forest n).path) (attribute_at (place_of_number forest n).attribute)) ≡ Some (entry_in forest n).tree
        → (place_of_number forest n).tree < length forest
    by_tree None e f = let never : None ≡ Some (entry_in forest n).tree = sym (ap (λ (o : Option PlainTree). then_found o (λ t. then_found (tree_at t (place_of_number forest n).path) (attribute_at (place_of_number forest n).attribute))) e) ∙ f in absurd (cc)
    by_tree (Some t) e f = within_from forest (place_of_number forest n).tree t e

-- where the forest grows

appended_from : (number : ℕ) (forest more : Forest) → entries_from number (forest ++ more) ≡ entries_from number forest ++ entries_from (number + length forest) more
appended_from number [] more = ap (λ (n : ℕ). entries_from n more) (omega arith)
appended_from number (t ∷ forest) more =
    ap (λ (es : List NodeEntry). entries_of number [] 0 t ++ es) (appended_from (suc number) forest more ∙ ap (λ (n : ℕ). entries_from (suc number) forest ++ entries_from n more) (omega arith))
    ∙ sym (append_assoc (entries_of number [] 0 t) (entries_from (suc number) forest) (entries_from (number + suc (length forest)) more))

pub entries_grow : (forest more : Forest) → node_entries (forest ++ more) ≡ node_entries forest ++ entries_from (length forest) more
entries_grow forest more = appended_from 0 forest more ∙ ap (λ (n : ℕ). node_entries forest ++ entries_from n more) (omega arith)

pub entry_stays : (forest more : Forest) (n : ℕ) → n < count_in forest → entry_in (forest ++ more) n ≡ entry_in forest n
entry_stays forest more n h =
    let here : slice_get (node_entries (forest ++ more)) n ≡ Some (entry_in forest n) =
    ap (λ (es : List NodeEntry). slice_get es n) (entries_grow forest more) ∙ got_before (node_entries forest) (entries_from (length forest) more) n (entry_in forest n) (got_entry forest n h) in
    got_from (node_entries (forest ++ more)) n (entry_in forest n) (beyond (forest ++ more) n) here

got_later : {A : Type 0} (xs ys : List A) (n : ℕ) (d : A) → length xs ≤ n → n < length (xs ++ ys) → slice_get ys (n - length xs) ≡ Some (get_or (xs ++ ys) n d)
got_later [] ys n d h g = ap (slice_get ys) (omega arith) ∙ got_within ys n d g
got_later (x ∷ xs) ys zero d h g = absurd (omega (arith, h))
got_later (x ∷ xs) ys (suc n) d h g = ap (slice_get ys) (omega arith) ∙ got_later xs ys n d (omega (arith, h)) (omega (arith, g))

behind_trees : (forest more : Forest) (i : ℕ) → slice_get (forest ++ more) (length forest + i) ≡ slice_get more i
behind_trees [] more i = ap (slice_get more) (omega arith)
behind_trees (t ∷ forest) more i =
    let next : suc (length forest) + i ≡ suc (length forest + i) = omega arith in
    ap (slice_get (t ∷ (forest ++ more))) next ∙ behind_trees forest more i

late_place : (forest more : Forest) (n : ℕ) → count_in forest ≤ n → length forest ≤ (place_of_number (forest ++ more) n).tree
late_place forest more n h = by_test (ltb n (count_in (forest ++ more))) refl
  where
    by_test : (b : Bool) → ltb n (count_in (forest ++ more)) ≡ b → length forest ≤ (place_of_number (forest ++ more) n).tree
    by_test true e =
        let grown : List NodeEntry = node_entries forest ++ entries_from (length forest) more in
        let same : node_entries (forest ++ more) ≡ grown = entries_grow forest more in
        let inside : n < length grown = omega (arith, ltb-true n (count_in (forest ++ more)) e, ap length same) in
        let there = trees_there (forest ++ more) more (length forest) (length forest) 0 (omega arith) (behind_trees forest more) in
        let got = each_at (λ m x. IsThere (forest ++ more) (length forest) x) 0 (entries_from (length forest) more) there (n - count_in forest) (get_or grown n (beyond (forest ++ more) n))
        (got_later (node_entries forest) (entries_from (length forest) more) n (beyond (forest ++ more) n) h inside) in
        subst (λ (es : List NodeEntry). length forest ≤ (get_or es n (beyond (forest ++ more) n)).place.tree) (sym same) got.late
    by_test false e =
        let past : get_or (node_entries (forest ++ more)) n (beyond (forest ++ more) n) ≡ beyond (forest ++ more) n =
        got_past (node_entries (forest ++ more)) n (beyond (forest ++ more) n) (ltb-false n (count_in (forest ++ more)) e) in
        subst (λ (x : NodeEntry). length forest ≤ x.place.tree) (sym past) (omega (arith, length-append forest more))

-- a number past all nodes stands for none, however the forest grows
pub place_is_not_there : (forest more : Forest) (n : ℕ) → count_in forest ≤ n → node_in forest (place_of_number (forest ++ more) n) ≡ None
place_is_not_there forest more n h =
    let p : PlainNode = place_of_number (forest ++ more) n in
    ap (λ (o : Option PlainTree). then_found o (λ t. then_found (tree_at t p.path) (attribute_at p.attribute))) (slice_get_past forest p.tree (late_place forest more n h))

-- nor is the tree of its place there
pub tree_is_not_there : (forest more : Forest) (n : ℕ) → count_in forest ≤ n → slice_get forest (place_of_number (forest ++ more) n).tree ≡ None
tree_is_not_there forest more n h = slice_get_past forest (place_of_number (forest ++ more) n).tree (late_place forest more n h)
