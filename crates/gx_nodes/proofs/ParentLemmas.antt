-- How far before a node its parent stands.
use Rattle.std.proofs.Common.{◌≡◌, ℕ, suc, ◌+◌, ◌-◌, ◌<◌, ◌≤◌, ◌⊎◌, inl, inr, List, [], ◌∷◌, ◌++◌, length, None, Some, refl, sym, ap, ◌∙◌, arith, subst}
use Rattle.std.specs.List.{slice_get}
use Rattle.std.specs.Option.{option_map}
use Rattle.gx_tree.specs.declared.attribute.Attribute.{Attribute}
use Rattle.gx_tree.specs.PlainTree.{PlainTree, PlainTrees, document, element, attribute, text, no_trees, a_tree}
use Rattle.gx_model.specs.Forest.{Forest}
use Rattle.gx_model.specs.Location.{along, node_of_tree}
use Rattle.gx_model.specs.Stepping.{behind_step, path_up}
use Rattle.gx_model.proofs.ListLemmas.{append_none}
use Rattle.gx_nodes.specs.Entries.{NodeEntry, entry_at, count_below, attribute_entries, entries_of, child_entries, entries_from, node_entries, count_in, beyond, entry_in, place_of_number}
use Rattle.gx_nodes.specs.Near.{place_up}
use Rattle.gx_nodes.proofs.Standing.{Stands, stands_front, stands_behind, stands_first, stands_next, EachFrom, each_append, each_at, got_from}
use Rattle.gx_nodes.proofs.EntryLemmas.{got_entry, length_tree, length_attributes}

path_up_last : (path : List ℕ) (n : ℕ) → path_up (path ++ n ∷ []) ≡ Some path
path_up_last [] n = refl
path_up_last (m ∷ []) n = refl
path_up_last (m ∷ k ∷ path) n = ap (behind_step m) (path_up_last (k ∷ path) n)

-- a root has no place above it, and else the parent stands so far before
pub record HasAbove (all : List NodeEntry) (c : ℕ) (e : NodeEntry) : Type 0 where
  pub parent : NodeEntry
  pub below : 0 < e.up
  pub within : e.up ≤ c
  pub there : slice_get all (c - e.up) ≡ Some parent
  pub above : place_up e.place ≡ Some parent.place

abbrev pub KnowsParent : List NodeEntry → ℕ → NodeEntry → Type 0
KnowsParent all c e = ((e.up ≡ 0) × (place_up e.place ≡ None)) ⊎ HasAbove all c e

attributes_know : (all : List NodeEntry) (n c : ℕ) (number : ℕ) (path : List ℕ) (position : ℕ) (l : List Attribute) (p : NodeEntry) → slice_get all n ≡ Some p
    → p.place ≡ node_of_tree number (along path) → c ≡ n + suc position → EachFrom (KnowsParent all) c (attribute_entries number path position l)
attributes_know all n c number path position [] p g h e = tt
attributes_know all n c number path position (a ∷ l) p g h e = (
  inr (record { parent = p; below = omega arith; within = omega (arith, e); there = ap (slice_get all) (omega (arith, e)) ∙ g; above = ap (λ q. Some q) (sym h) }),
  attributes_know all n (suc c) number path (suc position) l p g h (omega (arith, e)),
)

mutual
  tree_knows : (all : List NodeEntry) (c : ℕ) (number : ℕ) (path : List ℕ) (up : ℕ) (t : PlainTree) → Stands all c (entries_of number path up t)
      → KnowsParent all c (entry_at number path None up t) → EachFrom (KnowsParent all) c (entries_of number path up t)
  tree_knows all c number path up (document ts) s h =
      let e : NodeEntry = entry_at number path None up (document ts) in
      (h, children_know all c (suc c) number path 0 1 ts e (stands_first all c e (child_entries number path 0 1 ts) s) refl (omega arith) (omega arith) (stands_next all c e (child_entries number path 0 1 ts) s))
  tree_knows all c number path up (element name kind l ts) s h =
      let e : NodeEntry = entry_at number path None up (element name kind l ts) in
      let A : List NodeEntry = attribute_entries number path 0 l in
      let C : List NodeEntry = child_entries number path 0 (suc (length l)) ts in
      let there = stands_first all c e (A ++ C) s in
      let d : ℕ = suc c + length A in (
        h,
        each_append (KnowsParent all) (suc c) d A C refl
            (attributes_know all c (suc c) number path 0 l e there refl (omega arith))
            (children_know all c d number path 0 (suc (length l)) ts e there refl (omega (arith, length_attributes number path 0 l)) (omega arith)
            (stands_behind all (suc c) d A C refl (stands_next all c e (A ++ C) s))),
      )
  tree_knows all c number path up (attribute a) s h = (h, tt)
  tree_knows all c number path up (text x) s h = (h, tt)

  children_know : (all : List NodeEntry) (n c : ℕ) (number : ℕ) (path : List ℕ) (position up : ℕ) (ts : PlainTrees) (p : NodeEntry) → slice_get all n ≡ Some p
      → p.place ≡ node_of_tree number (along path) → c ≡ n + up → 0 < up → Stands all c (child_entries number path position up ts)
      → EachFrom (KnowsParent all) c (child_entries number path position up ts)
  children_know all n c number path position up no_trees p g h e b s = tt
  children_know all n c number path position up (a_tree t ts) p g h e b s =
      let T : List NodeEntry = entries_of number (path ++ position ∷ []) up t in
      let C : List NodeEntry = child_entries number path (suc position) (up + suc (count_below t)) ts in
      let d : ℕ = c + length T in
      each_append (KnowsParent all) c d T C refl
      (tree_knows all c number (path ++ position ∷ []) up t (stands_front all c T C s)
      (inr (record {
        parent = p;
        below = b;
        within = omega (arith, e);
        there = ap (slice_get all) (omega (arith, e)) ∙ g;
        above = ap (option_map (λ q. node_of_tree number (along q))) (path_up_last path position) ∙ ap (λ q. Some q) (sym h);
      })))
      (children_know all n d number path (suc position) (up + suc (count_below t)) ts p g h (omega (arith, e, length_tree number (path ++ position ∷ []) up t)) (omega arith) (stands_behind all c d T C refl s))

trees_know : (all : List NodeEntry) (c number : ℕ) (forest : Forest) → Stands all c (entries_from number forest) → EachFrom (KnowsParent all) c (entries_from number forest)
trees_know all c number [] s = tt
trees_know all c number (t ∷ forest) s =
    let T : List NodeEntry = entries_of number [] 0 t in
    let F : List NodeEntry = entries_from (suc number) forest in
    each_append (KnowsParent all) c (c + length T) T F refl
    (tree_knows all c number [] 0 t (stands_front all c T F s) (inl (refl, refl)))
    (trees_know all (c + length T) (suc number) forest (stands_behind all c (c + length T) T F refl s))

knows : (forest : Forest) (n : ℕ) → n < count_in forest → KnowsParent (node_entries forest) n (entry_in forest n)
knows forest n h =
    let all = trees_know (node_entries forest) 0 0 forest (record { more = []; is = sym (append_none (node_entries forest)) }) in
    let here : 0 + n ≡ n = omega arith in
    subst (λ (m : ℕ). KnowsParent (node_entries forest) m (entry_in forest n)) here (each_at (KnowsParent (node_entries forest)) 0 (node_entries forest) all n (entry_in forest n) (got_entry forest n h))

pub root_has_none : (forest : Forest) (n : ℕ) → n < count_in forest → (entry_in forest n).up ≡ 0 → place_up (place_of_number forest n) ≡ None
root_has_none forest n h e = root_of (knows forest n h)
  where
    root_of : KnowsParent (node_entries forest) n (entry_in forest n) → place_up (place_of_number forest n) ≡ None
    root_of (inl root) = root.1
    root_of (inr above) = absurd (omega (arith, e, above.below))

pub parent_is : (forest : Forest) (n : ℕ) → n < count_in forest → 0 < (entry_in forest n).up
    → ((entry_in forest n).up ≤ n) × (place_up (place_of_number forest n) ≡ Some (place_of_number forest (n - (entry_in forest n).up)))
parent_is forest n h b = above_of (knows forest n h)
  where
    above_of : KnowsParent (node_entries forest) n (entry_in forest n)
        → ((entry_in forest n).up ≤ n) × (place_up (place_of_number forest n) ≡ Some (place_of_number forest (n - (entry_in forest n).up)))
    above_of (inl root) = absurd (omega (arith, b, root.0))
    above_of (inr above) =
        let m : ℕ = n - (entry_in forest n).up in
        let same : entry_in forest m ≡ above.parent = got_from (node_entries forest) m above.parent (beyond forest m) above.there in
        (above.within, above.above ∙ ap (λ (e : NodeEntry). Some e.place) (sym same))
