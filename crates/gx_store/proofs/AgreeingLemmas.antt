-- Trees are deep-equal where their nodes agree one by one.
use Rattle.std.proofs.Common.{◌≡◌, ℕ, suc, ◌+◌, ◌-◌, ◌<◌, ◌≤◌, Bool, true, false, ◌&&◌, ◌||◌, ◌==◌, List, [], ◌∷◌, ◌++◌, map, length, Option, None, Some, refl, sym, ap, ◌∙◌, arith, subst}
use Rattle.std.specs.List.{slice_get, list_all, list_any}
use Rattle.std.proofs.lemmas.Bool.{and_parts, and_from, eqb-true, eq-eqb, true≢false, false_from_ne_true}
use Rattle.std.proofs.Math.Bool.{and-true}
use Rattle.gx_base.specs.Name.{same_name}
use Rattle.gx_base.specs.declared.name.Name.{Name}
use Rattle.gx_tree.specs.declared.attribute.Attribute.{Attribute}
use Rattle.gx_tree.specs.PlainTree.{PlainTree, PlainTrees, document, element, attribute, text, no_trees, a_tree}
use Rattle.gx_model.specs.DeepEqual.{are_equal_attributes, have_equal_attributes, are_equal_trees, have_equal_children, are_equal_found, are_equal_nodes}
use Rattle.gx_model.specs.Forest.{Forest, own_attributes, node_in}
use Rattle.gx_model.specs.Growth.{Extends}
use Rattle.gx_nodes.specs.Entries.{NodeEntry, entry_at, count_below, count_of_all, attribute_entries, entries_of, child_entries, node_entries, count_in, beyond, entry_in, place_of_number}
use Rattle.gx_nodes.specs.Hops.{hops}
use Rattle.gx_nodes.specs.Near.{inner_trees}
use Rattle.gx_nodes.proofs.EntryLemmas.{inner_entries, below_of, entry_below, entries_parts, below_parts, length_tree, length_attributes, forest_nests}
use Rattle.gx_nodes.proofs.HopLemmas.{hops_end, hops_more}
use Rattle.gx_nodes.proofs.Standing.{Stands, stands_front, stands_behind, stands_first, stands_next, got_from, within_from}
use Rattle.gx_store.specs.declared.row.Form.TheVariants as forms
use Rattle.gx_store.specs.Agreeing.{nodes_agree, trees_agree, entries_agree, numbers_agree, are_called_alike, are_attributes_alike}
use Rattle.gx_store.specs.Stored.{attributes_at, below_in, label_of, FitsForm}
use Rattle.gx_store.proofs.StoreLemmas.{found_later, not_found_later}

-- two trees are equal where they agree and have equal children

as_many : (name other : Name) (own others : List Attribute) → (same_name name other && have_equal_attributes own others) ≡ true → length own ≡ length others
as_many name other own others e = eqb-true (length own) (length others) (and_parts _ _ (and_parts (same_name name other) (have_equal_attributes own others) e).1).0

mutual
  counts_equal : (t u : PlainTree) → are_equal_trees t u ≡ true → count_below t ≡ count_below u
  counts_equal (document ts) (document us) e = all_counts_equal ts us e
  counts_equal (element name kind own ts) (element other beside others us) e =
      let parts = and_parts (same_name name other && have_equal_attributes own others) (have_equal_children ts us) e in
      let many : length own ≡ length others = as_many name other own others parts.0 in
      omega (arith, many, all_counts_equal ts us parts.1)
  counts_equal (attribute a) (attribute b) e = refl
  counts_equal (text t) (text u) e = refl
  counts_equal _ _ e = absurd (cc)

  all_counts_equal : (ts us : PlainTrees) → have_equal_children ts us ≡ true → count_of_all ts ≡ count_of_all us
  all_counts_equal no_trees no_trees e = refl
  all_counts_equal (a_tree t ts) (a_tree u us) e =
      let parts = and_parts (are_equal_trees t u) (have_equal_children ts us) e in
      omega (arith, counts_equal t u parts.0, all_counts_equal ts us parts.1)
  all_counts_equal _ _ e = absurd (cc)

agree_where_equal : (t u : PlainTree) → are_equal_trees t u ≡ true → nodes_agree t u ≡ true
agree_where_equal (document ts) (document us) e = refl
agree_where_equal (element name kind own ts) (element other beside others us) e = (and_parts (same_name name other && have_equal_attributes own others) (have_equal_children ts us) e).0
agree_where_equal (attribute a) (attribute b) e = e
agree_where_equal (text t) (text u) e = e
agree_where_equal _ _ e = absurd (cc)

equal_where_agree : (t u : PlainTree) → nodes_agree t u ≡ true → are_equal_trees t u ≡ have_equal_children (inner_trees t) (inner_trees u)
equal_where_agree (document ts) (document us) e = refl
equal_where_agree (element name kind own ts) (element other beside others us) e = ap (λ (b : Bool). b && have_equal_children ts us) e
equal_where_agree (attribute a) (attribute b) e = e
equal_where_agree (text t) (text u) e = e
equal_where_agree _ _ e = absurd (cc)

as_many_attributes : (t u : PlainTree) → nodes_agree t u ≡ true → length (own_attributes t) ≡ length (own_attributes u)
as_many_attributes (document ts) (document us) e = refl
as_many_attributes (element name kind own ts) (element other beside others us) e = as_many name other own others e
as_many_attributes (attribute a) (attribute b) e = refl
as_many_attributes (text t) (text u) e = refl
as_many_attributes _ _ e = absurd (cc)

unequal_where_not : (t u : PlainTree) → trees_agree t u ≡ false → are_equal_trees t u ≡ false
unequal_where_not t u e = false_from_ne_true (are_equal_trees t u) (λ h.
    let agrees : trees_agree t u ≡ true = and_from _ (nodes_agree t u) (eq-eqb (count_below t) (count_below u) (counts_equal t u h)) (agree_where_equal t u h) in
    true≢false (sym agrees ∙ e))

-- nodes from a number on agree with those that stand as far behind another node

abbrev pub agree_from : Forest → (a b end n : ℕ) → Bool
agree_from forest a b end n = list_all (λ k. numbers_agree forest k (k + b - a)) (hops (attributes_at forest) n end)

pub agree_end : (forest : Forest) (a b end n : ℕ) → end ≤ n → agree_from forest a b end n ≡ true
agree_end forest a b end n h = ap (list_all (λ k. numbers_agree forest k (k + b - a))) (hops_end (attributes_at forest) n end h)

pub agree_more : (forest : Forest) (a b end n m : ℕ) → m ≡ n + b - a → n < end → agree_from forest a b end n ≡ (numbers_agree forest n m && agree_from forest a b end (suc (n + attributes_at forest n)))
agree_more forest a b end n m e h =
    ap (list_all (λ k. numbers_agree forest k (k + b - a))) (hops_more (attributes_at forest) n end h)
    ∙ ap (λ (k : ℕ). numbers_agree forest n k && agree_from forest a b end (suc (n + attributes_at forest n))) (sym e)

module _ (forest : Forest) (a b end : ℕ) where
  abbrev agrees : ℕ → Bool
  agrees = agree_from forest a b end

  one_pair : (n m : ℕ) (e f : NodeEntry) (es fs : List NodeEntry) → Stands (node_entries forest) n (e ∷ es) → Stands (node_entries forest) m (f ∷ fs) → m ≡ n + b - a → n < end
      → agrees n ≡ (trees_agree e.tree f.tree && agrees (suc (n + length (own_attributes e.tree))))
  one_pair n m e f es fs s r x h =
      let there = stands_first (node_entries forest) n e es s in
      let here : entry_in forest n ≡ e = got_from (node_entries forest) n e (beyond forest n) there in
      agree_more forest a b end n m x h
      ∙ ap (λ (o : Option NodeEntry). entries_agree o (slice_get (node_entries forest) m) && agrees (suc (n + attributes_at forest n))) there
      ∙ ap (λ (o : Option NodeEntry). entries_agree (Some e) o && agrees (suc (n + attributes_at forest n))) (stands_first (node_entries forest) m f fs r)
      ∙ ap (λ (y : NodeEntry). trees_agree e.tree f.tree && agrees (suc (n + length (own_attributes y.tree)))) here

  -- the children of two nodes
  abbrev InnerAgree : ℕ → List ℕ → ℕ → List ℕ → PlainTree → PlainTree → Type 0
  InnerAgree number path other along t u =
      (n m next : ℕ) → Stands (node_entries forest) n (inner_entries number path t) → Stands (node_entries forest) m (inner_entries other along u) → m + a ≡ n + b
      → count_of_all (inner_trees t) ≡ count_of_all (inner_trees u) → next ≡ n + count_of_all (inner_trees t) → next ≤ end → agrees n ≡ (have_equal_children (inner_trees t) (inner_trees u) && agrees next)

  pub nodes_pair : (e f : NodeEntry) → InnerAgree e.place.tree e.place.path f.place.tree f.place.path e.tree f.tree → (n m next : ℕ) → Stands (node_entries forest) n (e ∷ entry_below e)
      → Stands (node_entries forest) m (f ∷ entry_below f) → m + a ≡ n + b → next ≡ n + suc (count_below e.tree) → next ≤ end → agrees n ≡ (are_equal_trees e.tree f.tree && agrees next)
  nodes_pair e f inner n m next s r x y h = by_test (trees_agree e.tree f.tree) refl
    where
      first : agrees n ≡ (trees_agree e.tree f.tree && agrees (suc (n + length (own_attributes e.tree))))
      first = one_pair n m e f (entry_below e) (entry_below f) s r (omega (arith, x)) (omega (arith, y, h))

      behind : (n : ℕ) (e : NodeEntry) → Stands (node_entries forest) n (e ∷ entry_below e) → Stands (node_entries forest) (suc (n + length (own_attributes e.tree))) (inner_entries e.place.tree e.place.path e.tree)
      behind n e s =
          let A : List NodeEntry = attribute_entries e.place.tree e.place.path 0 (own_attributes e.tree) in
          stands_behind (node_entries forest) (suc n) (suc (n + length (own_attributes e.tree))) A (inner_entries e.place.tree e.place.path e.tree)
          (omega (arith, length_attributes e.place.tree e.place.path 0 (own_attributes e.tree))) (stands_next (node_entries forest) n e (entry_below e) s)

      by_test : (t : Bool) → trees_agree e.tree f.tree ≡ t → agrees n ≡ (are_equal_trees e.tree f.tree && agrees next)
      by_test true t =
          let parts = and_parts _ (nodes_agree e.tree f.tree) t in
          let many : count_below e.tree ≡ count_below f.tree = eqb-true (count_below e.tree) (count_below f.tree) parts.0 in
          let own : length (own_attributes e.tree) ≡ length (own_attributes f.tree) = as_many_attributes e.tree f.tree parts.1 in
          let k : ℕ = suc (n + length (own_attributes e.tree)) in
          first
          ∙ ap (λ (c : Bool). c && agrees k) t
          ∙ inner k (suc (m + length (own_attributes f.tree))) next (behind n e s) (behind m f r) (omega (arith, x, own)) (omega (arith, many, own, below_parts e.tree, below_parts f.tree))
          (omega (arith, y, below_parts e.tree)) h
          ∙ ap (λ (c : Bool). c && agrees next) (sym (equal_where_agree e.tree f.tree parts.1))
      by_test false t =
          first
          ∙ ap (λ (c : Bool). c && agrees (suc (n + length (own_attributes e.tree)))) t
          ∙ ap (λ (c : Bool). c && agrees next) (sym (unequal_where_not e.tree f.tree t))

  both_pairs : (t u : PlainTree) (rest : Bool) (n k next : ℕ) → agrees n ≡ (are_equal_trees t u && agrees k) → (count_below t ≡ count_below u → agrees k ≡ (rest && agrees next))
      → agrees n ≡ ((are_equal_trees t u && rest) && agrees next)
  both_pairs t u rest n k next first others = by_test (are_equal_trees t u) refl
    where
      by_test : (b : Bool) → are_equal_trees t u ≡ b → agrees n ≡ ((are_equal_trees t u && rest) && agrees next)
      by_test true e = first ∙ ap (λ (c : Bool). c && agrees k) e ∙ others (counts_equal t u e) ∙ sym (ap (λ (c : Bool). (c && rest) && agrees next) e)
      by_test false e = first ∙ ap (λ (c : Bool). c && agrees k) e ∙ sym (ap (λ (c : Bool). (c && rest) && agrees next) e)

  no_pairs : (us : PlainTrees) (n next : ℕ) → 0 ≡ count_of_all us → next ≡ n + 0 → agrees n ≡ (have_equal_children no_trees us && agrees next)
  no_pairs no_trees n next e y = ap agrees (omega (arith, y))
  no_pairs (a_tree u us) n next e y = absurd (omega (arith, e))

  mutual
    inner_pairs : (number : ℕ) (path : List ℕ) (other : ℕ) (along : List ℕ) (t u : PlainTree) → InnerAgree number path other along t u
    inner_pairs number path other along (document ts) u n m next s r x many y h = trees_pair number path 0 1 other along 0 (suc (length (own_attributes u))) ts (inner_trees u) n m next s r x many y h
    inner_pairs number path other along (element name kind l ts) u n m next s r x many y h =
        trees_pair number path 0 (suc (length l)) other along 0 (suc (length (own_attributes u))) ts (inner_trees u) n m next s r x many y h
    inner_pairs number path other along (attribute c) u n m next s r x many y h = no_pairs (inner_trees u) n next many y
    inner_pairs number path other along (text c) u n m next s r x many y h = no_pairs (inner_trees u) n next many y

    trees_pair : (number : ℕ) (path : List ℕ) (position up : ℕ) (other : ℕ) (along : List ℕ) (place above : ℕ) (ts us : PlainTrees) (n m next : ℕ)
        → Stands (node_entries forest) n (child_entries number path position up ts) → Stands (node_entries forest) m (child_entries other along place above us) → m + a ≡ n + b
        → count_of_all ts ≡ count_of_all us → next ≡ n + count_of_all ts → next ≤ end → agrees n ≡ (have_equal_children ts us && agrees next)
    trees_pair number path position up other along place above no_trees us n m next s r x many y h = no_pairs us n next many y
    trees_pair number path position up other along place above (a_tree t ts) no_trees n m next s r x many y h = absurd (omega (arith, many))
    trees_pair number path position up other along place above (a_tree t ts) (a_tree u us) n m next s r x many y h =
        let here : List ℕ = path ++ position ∷ [] in
        let there : List ℕ = along ++ place ∷ [] in
        let T : List NodeEntry = entries_of number here up t in
        let C : List NodeEntry = child_entries number path (suc position) (up + suc (count_below t)) ts in
        let U : List NodeEntry = entries_of other there above u in
        let D : List NodeEntry = child_entries other along (suc place) (above + suc (count_below u)) us in
        let k : ℕ = n + suc (count_below t) in
        let j : ℕ = m + suc (count_below u) in
        both_pairs t u (have_equal_children ts us) n k next
        (nodes_pair (entry_at number here None up t) (entry_at other there None above u) (inner_pairs number here other there t u) n m k
        (subst (λ (es : List NodeEntry). Stands (node_entries forest) n es) (entries_parts number here up t) (stands_front (node_entries forest) n T C s))
        (subst (λ (es : List NodeEntry). Stands (node_entries forest) m es) (entries_parts other there above u) (stands_front (node_entries forest) m U D r)) x refl (omega (arith, y, h)))
        (λ same.
        trees_pair number path (suc position) (up + suc (count_below t)) other along (suc place) (above + suc (count_below u)) ts us k j next
        (stands_behind (node_entries forest) n k T C (omega (arith, length_tree number here up t)) s) (stands_behind (node_entries forest) m j U D (omega (arith, length_tree other there above u)) r)
        (omega (arith, x, same)) (omega (arith, many, same)) (omega (arith, y)) h)

pub trees_from : (forest : Forest) (a b end : ℕ) → a < count_in forest → b < count_in forest → end ≡ suc (a + below_in forest a)
    → are_equal_trees (entry_in forest a).tree (entry_in forest b).tree ≡ agree_from forest a b end a
trees_from forest a b end h g y =
    let e : NodeEntry = entry_in forest a in
    let f : NodeEntry = entry_in forest b in
    sym (nodes_pair forest a b end e f (inner_pairs forest a b end e.place.tree e.place.path f.place.tree f.place.path e.tree f.tree) a b end (forest_nests forest a h) (forest_nests forest b g) (omega arith) (omega (arith, y)) (omega arith)
    ∙ ap (λ (c : Bool). are_equal_trees e.tree f.tree && c) (agree_end forest a b end end (omega arith))
    ∙ and-true (are_equal_trees e.tree f.tree))

-- nodes that agree are there, and have as many attributes
pub record AreAlike (forest : Forest) (n m : ℕ) : Type 0 where
  pub first : n < count_in forest
  pub second : m < count_in forest
  pub attributes : attributes_at forest n ≡ attributes_at forest m

pub alike_where_agree : (forest : Forest) (n m : ℕ) → numbers_agree forest n m ≡ true → AreAlike forest n m
alike_where_agree forest n m t = by_found (slice_get (node_entries forest) n) (slice_get (node_entries forest) m) refl refl t
  where
    by_found : (one two : Option NodeEntry) → slice_get (node_entries forest) n ≡ one → slice_get (node_entries forest) m ≡ two → entries_agree one two ≡ true → AreAlike forest n m
    by_found (Some e) (Some f) g h t =
        let here : entry_in forest n ≡ e = got_from (node_entries forest) n e (beyond forest n) g in
        let there : entry_in forest m ≡ f = got_from (node_entries forest) m f (beyond forest m) h in
        let many = as_many_attributes e.tree f.tree (and_parts _ (nodes_agree e.tree f.tree) t).1 in
        record {
          first = within_from (node_entries forest) n e g;
          second = within_from (node_entries forest) m f h;
          attributes = ap (λ (y : NodeEntry). length (own_attributes y.tree)) here ∙ many ∙ ap (λ (y : NodeEntry). length (own_attributes y.tree)) (sym there);
        }
    by_found None two g h t = absurd (cc)
    by_found (Some e) None g h t = absurd (cc)

pub agree_stops : (forest : Forest) (a b end n m : ℕ) (whole answer : Bool) → m + a ≡ n + b → n < end → answer ≡ numbers_agree forest n m → answer ≡ false → whole ≡ agree_from forest a b end n → false ≡ whole
agree_stops forest a b end n m whole answer x h r f e =
    sym (e ∙ agree_more forest a b end n m (omega (arith, x)) h ∙ ap (λ (c : Bool). c && agree_from forest a b end (suc (n + attributes_at forest n))) (sym r ∙ f))

pub agree_goes_on : (forest : Forest) (a b end n m next : ℕ) (whole answer : Bool) → m + a ≡ n + b → n < end → answer ≡ numbers_agree forest n m → answer ≡ true → next ≡ suc (n + attributes_at forest n)
    → whole ≡ agree_from forest a b end n → whole ≡ agree_from forest a b end next
agree_goes_on forest a b end n m next whole answer x h r f y e =
    e
    ∙ agree_more forest a b end n m (omega (arith, x)) h
    ∙ ap (λ (c : Bool). c && agree_from forest a b end (suc (n + attributes_at forest n))) (sym r ∙ f)
    ∙ ap (agree_from forest a b end) (sym y)

-- attributes as trees

alike_mapped : (a : Attribute) (others : List Attribute) → list_any (are_attributes_alike (attribute a)) (map attribute others) ≡ list_any (are_equal_attributes a) others
alike_mapped a [] = refl
alike_mapped a (b ∷ others) = ap (λ (c : Bool). are_equal_attributes a b || c) (alike_mapped a others)

pub attributes_mapped : (own others : List Attribute)
    → list_all (λ t. list_any (are_attributes_alike t) (map attribute others)) (map attribute own) ≡ list_all (λ a. list_any (are_equal_attributes a) others) own
attributes_mapped [] others = refl
attributes_mapped (a ∷ own) others =
    ap (λ (c : Bool). c && list_all (λ t. list_any (are_attributes_alike t) (map attribute others)) (map attribute own)) (alike_mapped a others)
    ∙ ap (λ (c : Bool). list_any (are_equal_attributes a) others && c) (attributes_mapped own others)

-- two elements

pub elements_agree : (t u : PlainTree) (label k beside j : ℕ) (called every : Bool) → FitsForm (forms.Element label k) t → FitsForm (forms.Element beside j) u → called ≡ are_called_alike (label_of t) (label_of u)
    → called ≡ true → k ≡ j → every ≡ list_all (λ a. list_any (are_attributes_alike a) (map attribute (own_attributes u))) (map attribute (own_attributes t)) → every ≡ nodes_agree t u
elements_agree (document ts) u label k beside j called every f g c e many r = absurd f
elements_agree (attribute a) u label k beside j called every f g c e many r = absurd f
elements_agree (text x) u label k beside j called every f g c e many r = absurd f
elements_agree (element name kind own ts) (document us) label k beside j called every f g c e many r = absurd g
elements_agree (element name kind own ts) (attribute a) label k beside j called every f g c e many r = absurd g
elements_agree (element name kind own ts) (text x) label k beside j called every f g c e many r = absurd g
elements_agree (element name kind own ts) (element other type others us) label k beside j called every f g c e many r =
    let each : Bool = list_all (λ a. list_any (are_equal_attributes a) others) own in
    r
    ∙ attributes_mapped own others
    ∙ sym (ap (λ (b : Bool). b && ((length own == length others) && each)) (sym c ∙ e) ∙ ap (λ (b : Bool). b && each) (eq-eqb (length own) (length others) (omega (arith, f, g, many))))

-- in each forest that grows from this one

pub equal_later : (forest later : Forest) (a b : ℕ) (answer : Bool) → a < count_in forest → b < count_in forest → Extends forest later → answer ≡ are_equal_trees (entry_in forest a).tree (entry_in forest b).tree
    → answer ≡ are_equal_nodes forest (place_of_number later a) (place_of_number later b)
equal_later forest later a b answer h g x e =
    e
    ∙ sym (ap (λ (o : Option PlainTree). are_equal_found o (node_in forest (place_of_number later b))) (found_later forest later a h x)
    ∙ ap (are_equal_found (Some (entry_in forest a).tree)) (found_later forest later b g x))

pub first_lacking : (forest later : Forest) (a b : ℕ) → count_in forest ≤ a → Extends forest later → false ≡ are_equal_nodes forest (place_of_number later a) (place_of_number later b)
first_lacking forest later a b h x = sym (ap (λ (o : Option PlainTree). are_equal_found o (node_in forest (place_of_number later b))) (not_found_later forest later a h x))

pub second_lacking : (forest later : Forest) (a b : ℕ) → count_in forest ≤ b → Extends forest later → false ≡ are_equal_nodes forest (place_of_number later a) (place_of_number later b)
second_lacking forest later a b h x =
    sym (ap (are_equal_found (node_in forest (place_of_number later a))) (not_found_later forest later b h x) ∙ by_found (node_in forest (place_of_number later a)))
  where
    by_found : (found : Option PlainTree) → are_equal_found found None ≡ false
    by_found None = refl
    by_found (Some t) = refl
