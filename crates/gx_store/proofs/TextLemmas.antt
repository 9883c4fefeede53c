-- The string value of a node, from the numbers of what is below it.
use Rattle.std.proofs.Common.{◌≡◌, ℕ, suc, ◌+◌, ◌<◌, ◌≤◌, Bool, true, false, ltb, List, [], ◌∷◌, ◌++◌, map, length, None, refl, sym, ap, ◌∙◌, arith, subst, append_assoc}
use Rattle.std.proofs.lemmas.Bool.{ltb-true, ltb-false}
use Rattle.gx_tree.specs.PlainTree.{PlainTree, PlainTrees, document, element, attribute, text, no_trees, a_tree}
use Rattle.gx_tree.specs.StringValue.{string_value, string_values, texts_joined}
use Rattle.gx_model.specs.Forest.{Forest, PlainNode, node_in, own_attributes}
use Rattle.gx_model.specs.Growth.{Extends}
use Rattle.gx_model.specs.TypedValue.{found_string_value}
use Rattle.gx_model.proofs.ListLemmas.{append_none}
use Rattle.gx_nodes.specs.Entries.{NodeEntry, entry_at, count_below, count_of_all, attribute_entries, entries_of, child_entries, node_entries, count_in, beyond, entry_in, place_of_number}
use Rattle.gx_nodes.specs.Near.{inner_trees}
use Rattle.gx_nodes.specs.Hops.{hops}
use Rattle.gx_nodes.proofs.Standing.{Stands, stands_front, stands_behind, stands_first, stands_next, got_from, got_past}
use Rattle.gx_nodes.proofs.EntryLemmas.{inner_entries, entries_parts, below_parts, length_tree, length_attributes, forest_nests}
use Rattle.gx_nodes.proofs.FoundLemmas.{node_found, entry_stays, place_is_not_there}
use Rattle.gx_nodes.proofs.HopLemmas.{hops_end, hops_more}
use Rattle.gx_store.specs.declared.row.Form.{Form}
use Rattle.gx_store.specs.declared.row.Form.TheVariants as forms
use Rattle.gx_store.specs.Stored.{attributes_at, below_in, own_text, own_text_in, own_texts_in, text_of_form, FitsForm}
use Rattle.gx_store.specs.Left.{numbered, descendants_left}

inner_string : PlainTree → List ℕ
inner_string t = string_values (inner_trees t)

text_parts : (t : PlainTree) → string_value t ≡ own_text t ++ string_values (inner_trees t)
text_parts (document ts) = refl
text_parts (element name kind l ts) = refl
text_parts (attribute a) = sym (append_none a.value)
text_parts (text x) = sym (append_none x)

abbrev joined : (ℕ → List ℕ) → List ℕ → List ℕ
joined texts ns = texts_joined (map texts ns)

module _ (forest : Forest) (end : ℕ) where
  abbrev left_out : ℕ → ℕ
  left_out = attributes_at forest

  abbrev HopsText : List ℕ → ℕ → ℕ → Type 0
  HopsText s n m = joined (own_text_in forest) (hops left_out n end) ≡ s ++ joined (own_text_in forest) (hops left_out m end)

  one_text : (n : ℕ) (e : NodeEntry) (es : List NodeEntry) → Stands (node_entries forest) n (e ∷ es) → n < end
      → joined (own_text_in forest) (hops left_out n end) ≡ own_text e.tree ++ joined (own_text_in forest) (hops left_out (suc (n + length (own_attributes e.tree))) end)
  one_text n e es s h =
      let here : entry_in forest n ≡ e = got_from (node_entries forest) n e (beyond forest n) (stands_first (node_entries forest) n e es s) in
      ap (joined (own_text_in forest)) (hops_more left_out n end h)
      ∙ ap (λ (x : NodeEntry). own_text x.tree ++ joined (own_text_in forest) (hops left_out (suc (n + length (own_attributes x.tree))) end)) here

  abbrev InnerText : ℕ → List ℕ → PlainTree → Type 0
  InnerText number path t =
      (n m : ℕ) → Stands (node_entries forest) n (inner_entries number path t) → m ≡ n + count_of_all (inner_trees t) → m ≤ end → HopsText (string_values (inner_trees t)) n m

  tree_text : (number : ℕ) (path : List ℕ) (up : ℕ) (t : PlainTree) → InnerText number path t → (n m : ℕ) → Stands (node_entries forest) n (entries_of number path up t) → m ≡ n + suc (count_below t) → m ≤ end
      → HopsText (string_value t) n m
  tree_text number path up t inner n m s e h =
      let x : NodeEntry = entry_at number path None up t in
      let A : List NodeEntry = attribute_entries number path 0 (own_attributes t) in
      let s' = subst (λ (es : List NodeEntry). Stands (node_entries forest) n es) (entries_parts number path up t) s in
      let k : ℕ = suc (n + length (own_attributes t)) in
      let behind = stands_behind (node_entries forest) (suc n) k A (inner_entries number path t) (omega (arith, length_attributes number path 0 (own_attributes t))) (stands_next (node_entries forest) n x (A ++ inner_entries number path t) s') in
      one_text n x (A ++ inner_entries number path t) s' (omega (arith, e, h))
      ∙ ap (λ (z : List ℕ). own_text t ++ z) (inner k m behind (omega (arith, e, below_parts t)) h)
      ∙ sym (append_assoc (own_text t) (string_values (inner_trees t)) (joined (own_text_in forest) (hops left_out m end)))
      ∙ ap (λ (z : List ℕ). z ++ joined (own_text_in forest) (hops left_out m end)) (sym (text_parts t))

  mutual
    inner_text : (number : ℕ) (path : List ℕ) (t : PlainTree) → InnerText number path t
    inner_text number path (document ts) n m s e h = trees_text number path 0 1 ts n m s e h
    inner_text number path (element name kind l ts) n m s e h = trees_text number path 0 (suc (length l)) ts n m s e h
    inner_text number path (attribute a) n m s e h = ap (λ (k : ℕ). joined (own_text_in forest) (hops left_out k end)) (omega (arith, e))
    inner_text number path (text x) n m s e h = ap (λ (k : ℕ). joined (own_text_in forest) (hops left_out k end)) (omega (arith, e))

    trees_text : (number : ℕ) (path : List ℕ) (position up : ℕ) (ts : PlainTrees) (n m : ℕ) → Stands (node_entries forest) n (child_entries number path position up ts) → m ≡ n + count_of_all ts → m ≤ end
        → HopsText (string_values ts) n m
    trees_text number path position up no_trees n m s e h = ap (λ (k : ℕ). joined (own_text_in forest) (hops left_out k end)) (omega (arith, e))
    trees_text number path position up (a_tree t ts) n m s e h =
        let here : List ℕ = path ++ position ∷ [] in
        let T : List NodeEntry = entries_of number here up t in
        let C : List NodeEntry = child_entries number path (suc position) (up + suc (count_below t)) ts in
        let k : ℕ = n + suc (count_below t) in
        tree_text number here up t (inner_text number here t) n k (stands_front (node_entries forest) n T C s) refl (omega (arith, e, h))
        ∙ ap (λ (z : List ℕ). string_value t ++ z) (trees_text number path (suc position) (up + suc (count_below t)) ts k m (stands_behind (node_entries forest) n k T C (omega (arith, length_tree number here up t)) s) (omega (arith, e)) h)
        ∙ sym (append_assoc (string_value t) (string_values ts) (joined (own_text_in forest) (hops left_out m end)))

texts_numbered : (forest : Forest) (ns : List ℕ) → own_texts_in forest (map numbered ns) ≡ joined (own_text_in forest) ns
texts_numbered forest [] = refl
texts_numbered forest (n ∷ ns) = ap (λ (z : List ℕ). own_text_in forest n ++ z) (texts_numbered forest ns)

-- the own text of a node, and those of its descendants
pub texts_are : (forest : Forest) (n next end : ℕ) → n < count_in forest → next ≡ suc (n + attributes_at forest n) → end ≡ suc (n + below_in forest n)
    → own_text_in forest n ++ own_texts_in forest (descendants_left forest next end) ≡ string_value (entry_in forest n).tree
texts_are forest n next end h a b =
    let e : NodeEntry = entry_in forest n in
    let A : List NodeEntry = attribute_entries e.place.tree e.place.path 0 (own_attributes e.tree) in
    let C : List NodeEntry = inner_entries e.place.tree e.place.path e.tree in
    let behind = stands_behind (node_entries forest) (suc n) next A C (omega (arith, a, length_attributes e.place.tree e.place.path 0 (own_attributes e.tree))) (stands_next (node_entries forest) n e (A ++ C) (forest_nests forest n h)) in
    ap (λ (z : List ℕ). own_text_in forest n ++ z)
    (texts_numbered forest (hops (attributes_at forest) next end)
    ∙ inner_text forest end e.place.tree e.place.path e.tree next end behind (omega (arith, a, b, below_parts e.tree)) (omega arith)
    ∙ ap (λ (ns : List ℕ). string_values (inner_trees e.tree) ++ joined (own_text_in forest) ns) (hops_end (attributes_at forest) end end (omega arith))
    ∙ append_none (string_values (inner_trees e.tree)))
    ∙ sym (text_parts e.tree)

pub texts_all : (forest : Forest) (n : ℕ)
    → own_text_in forest n ++ own_texts_in forest (descendants_left forest (suc (n + attributes_at forest n)) (suc (n + below_in forest n))) ≡ string_value (entry_in forest n).tree
texts_all forest n = by_count (ltb n (count_in forest)) refl
  where
    by_count : (b : Bool) → ltb n (count_in forest) ≡ b
        → own_text_in forest n ++ own_texts_in forest (descendants_left forest (suc (n + attributes_at forest n)) (suc (n + below_in forest n))) ≡ string_value (entry_in forest n).tree
    by_count true e = texts_are forest n (suc (n + attributes_at forest n)) (suc (n + below_in forest n)) (ltb-true n (count_in forest) e) refl refl
    by_count false e =
        let past : entry_in forest n ≡ beyond forest n = got_past (node_entries forest) n (beyond forest n) (ltb-false n (count_in forest) e) in
        let none : below_in forest n ≡ 0 = ap (λ (x : NodeEntry). count_below x.tree) past in
        ap (λ (ns : List ℕ). own_text_in forest n ++ own_texts_in forest (map numbered ns)) (hops_end (attributes_at forest) (suc (n + attributes_at forest n)) (suc (n + below_in forest n)) (omega (arith, none)))
        ∙ append_none (own_text_in forest n)
        ∙ ap (λ (x : NodeEntry). own_text x.tree) past
        ∙ sym (ap (λ (x : NodeEntry). string_value x.tree) past)

pub nothing_left : (forest : Forest) (n : ℕ) → count_in forest ≤ n → [] ≡ descendants_left forest (suc (n + attributes_at forest n)) (suc (n + below_in forest n))
nothing_left forest n h =
    let past : entry_in forest n ≡ beyond forest n = got_past (node_entries forest) n (beyond forest n) h in
    let none : below_in forest n ≡ 0 = ap (λ (x : NodeEntry). count_below x.tree) past in
    sym (ap (map numbered) (hops_end (attributes_at forest) (suc (n + attributes_at forest n)) (suc (n + below_in forest n)) (omega (arith, none))))

pub string_later : (forest later : Forest) (n : ℕ) → Extends forest later → string_value (entry_in forest n).tree ≡ found_string_value (node_in forest (place_of_number later n))
string_later forest later n x = subst (λ (f : Forest). string_value (entry_in forest n).tree ≡ found_string_value (node_in forest (place_of_number f n))) (sym x.is) (by_count (ltb n (count_in forest)) refl)
  where
    by_count : (b : Bool) → ltb n (count_in forest) ≡ b → string_value (entry_in forest n).tree ≡ found_string_value (node_in forest (place_of_number (forest ++ x.more) n))
    by_count true e =
        let h = ltb-true n (count_in forest) e in
        let same : place_of_number (forest ++ x.more) n ≡ place_of_number forest n = ap (λ (y : NodeEntry). y.place) (entry_stays forest x.more n h) in
        ap found_string_value (sym (node_found forest n h)) ∙ ap (λ (p : PlainNode). found_string_value (node_in forest p)) (sym same)
    by_count false e =
        let h = ltb-false n (count_in forest) e in
        ap (λ (y : NodeEntry). string_value y.tree) (got_past (node_entries forest) n (beyond forest n) h)
        ∙ sym (ap found_string_value (place_is_not_there forest x.more n h))

pub text_fits : (form : Form) (t : PlainTree) → FitsForm form t → text_of_form form ≡ own_text t
text_fits forms.Document (document ts) h = refl
text_fits forms.Document (element name kind list ts) h = absurd h
text_fits forms.Document (attribute a) h = absurd h
text_fits forms.Document (text x) h = absurd h
text_fits (forms.Element n k) (document ts) h = absurd h
text_fits (forms.Element n k) (element name kind list ts) h = refl
text_fits (forms.Element n k) (attribute a) h = absurd h
text_fits (forms.Element n k) (text x) h = absurd h
text_fits (forms.Attribute n v) (document ts) h = absurd h
text_fits (forms.Attribute n v) (element name kind list ts) h = absurd h
text_fits (forms.Attribute n v) (attribute a) h = h
text_fits (forms.Attribute n v) (text x) h = absurd h
text_fits (forms.Text y) (document ts) h = absurd h
text_fits (forms.Text y) (element name kind list ts) h = absurd h
text_fits (forms.Text y) (attribute a) h = absurd h
text_fits (forms.Text y) (text x) h = h

pub no_text_past : (forest : Forest) (n : ℕ) → count_in forest ≤ n → [] ≡ own_text_in forest n
no_text_past forest n h = sym (ap (λ (x : NodeEntry). own_text x.tree) (got_past (node_entries forest) n (beyond forest n) h))
