-- The trees of what stands near a node, from their numbers.
use Rattle.std.proofs.Common.{◌≡◌, ℕ, suc, ◌+◌, ◌<◌, true, false, List, [], ◌∷◌, ◌++◌, map, length, Option, None, Some, refl, sym, ap, ◌∙◌, arith, subst}
use Rattle.std.specs.Prelude.{MatchOption, is_some}
use Rattle.gx_tree.specs.declared.attribute.Attribute.{Attribute}
use Rattle.gx_tree.specs.PlainTree.{PlainTree, PlainTrees, document, element, attribute, text, no_trees, a_tree, list_of}
use Rattle.gx_model.specs.Forest.{Forest, own_attributes}
use Rattle.gx_model.proofs.ListLemmas.{map_after}
use Rattle.gx_nodes.specs.Entries.{NodeEntry, entry_at, count_below, count_of_all, attribute_entries, entries_of, child_entries, node_entries, count_in, beyond, entry_in}
use Rattle.gx_nodes.specs.Near.{inner_trees}
use Rattle.gx_nodes.specs.Hops.{hops}
use Rattle.gx_nodes.specs.Rows.{attributes_among}
use Rattle.gx_nodes.proofs.Standing.{Stands, stands_front, stands_behind, stands_first, stands_next, got_from}
use Rattle.gx_nodes.proofs.EntryLemmas.{inner_entries, below_of, entries_parts, below_parts, length_tree, length_attributes, forest_nests}
use Rattle.gx_nodes.proofs.HopLemmas.{hops_end, hops_more}
use Rattle.gx_store.specs.declared.number.NodeId.{NodeId}
use Rattle.gx_store.specs.Left.{numbered, children_left, attributes_left, trees_numbered}
use Rattle.gx_store.specs.Shaped.{element_label_of, only_label}
use Rattle.gx_store.specs.Stored.{below_in, attributes_at}

abbrev tree_at_number : Forest → ℕ → PlainTree
tree_at_number forest n = (entry_in forest n).tree

-- one number, and those behind what it leaves out
one_tree : (forest : Forest) (left_out : ℕ → ℕ) (n end : ℕ) (e : NodeEntry) (es : List NodeEntry) → Stands (node_entries forest) n (e ∷ es) → n < end
    → map (tree_at_number forest) (hops left_out n end) ≡ e.tree ∷ map (tree_at_number forest) (hops left_out (suc (n + left_out n)) end)
one_tree forest left_out n end e es s h =
    let here : entry_in forest n ≡ e = got_from (node_entries forest) n e (beyond forest n) (stands_first (node_entries forest) n e es s) in
    ap (map (tree_at_number forest)) (hops_more left_out n end h)
    ∙ ap (λ (x : NodeEntry). x.tree ∷ map (tree_at_number forest) (hops left_out (suc (n + left_out n)) end)) here

children_hop : (forest : Forest) (number : ℕ) (path : List ℕ) (position up : ℕ) (ts : PlainTrees) (n end : ℕ) → Stands (node_entries forest) n (child_entries number path position up ts) → end ≡ n + count_of_all ts
    → map (tree_at_number forest) (hops (below_in forest) n end) ≡ list_of ts
children_hop forest number path position up no_trees n end s e = ap (map (tree_at_number forest)) (hops_end (below_in forest) n end (omega (arith, e)))
children_hop forest number path position up (a_tree t ts) n end s e =
    let here : List ℕ = path ++ position ∷ [] in
    let T : List NodeEntry = entries_of number here up t in
    let C : List NodeEntry = child_entries number path (suc position) (up + suc (count_below t)) ts in
    let x : NodeEntry = entry_at number here None up t in
    let first = subst (λ (es : List NodeEntry). Stands (node_entries forest) n es) (entries_parts number here up t) (stands_front (node_entries forest) n T C s) in
    let there : entry_in forest n ≡ x = got_from (node_entries forest) n x (beyond forest n) (stands_first (node_entries forest) n x (below_of number here t) first) in
    let m : ℕ = suc (n + count_below t) in
    one_tree forest (below_in forest) n end x (below_of number here t) first (omega (arith, e))
    ∙ ap (λ (y : NodeEntry). t ∷ map (tree_at_number forest) (hops (below_in forest) (suc (n + count_below y.tree)) end)) there
    ∙ ap (λ (us : List PlainTree). t ∷ us)
    (children_hop forest number path (suc position) (up + suc (count_below t)) ts m end (stands_behind (node_entries forest) n m T C (omega (arith, length_tree number here up t)) s) (omega (arith, e)))

attributes_hop : (forest : Forest) (number : ℕ) (path : List ℕ) (position : ℕ) (l : List Attribute) (n end : ℕ) → Stands (node_entries forest) n (attribute_entries number path position l) → end ≡ n + length l
    → map (tree_at_number forest) (hops (λ m. 0) n end) ≡ map attribute l
attributes_hop forest number path position [] n end s e = ap (map (tree_at_number forest)) (hops_end (λ m. 0) n end (omega (arith, e)))
attributes_hop forest number path position (a ∷ l) n end s e =
    let x : NodeEntry = entry_at number path (Some position) (suc position) (attribute a) in
    let A : List NodeEntry = attribute_entries number path (suc position) l in
    let next : suc (n + 0) ≡ suc n = omega arith in
    one_tree forest (λ m. 0) n end x A s (omega (arith, e))
    ∙ ap (λ (m : ℕ). attribute a ∷ map (tree_at_number forest) (hops (λ k. 0) m end)) next
    ∙ ap (λ (us : List PlainTree). attribute a ∷ us) (attributes_hop forest number path (suc position) l (suc n) end (stands_next (node_entries forest) n x A s) (omega (arith, e)))

pub children_trees : (forest : Forest) (n : ℕ) → n < count_in forest
    → trees_numbered forest (children_left forest (suc (n + attributes_at forest n)) (suc (n + below_in forest n))) ≡ list_of (inner_trees (entry_in forest n).tree)
children_trees forest n h =
    let e : NodeEntry = entry_in forest n in
    let A : List NodeEntry = attribute_entries e.place.tree e.place.path 0 (own_attributes e.tree) in
    let C : List NodeEntry = inner_entries e.place.tree e.place.path e.tree in
    let behind = stands_behind (node_entries forest) (suc n) (suc (n + attributes_at forest n)) A C (omega (arith, length_attributes e.place.tree e.place.path 0 (own_attributes e.tree)))
    (stands_next (node_entries forest) n e (A ++ C) (forest_nests forest n h)) in
    map_after (λ (m : NodeId). (entry_in forest m.number).tree) numbered (hops (below_in forest) (suc (n + attributes_at forest n)) (suc (n + below_in forest n)))
    ∙ children_hop forest e.place.tree e.place.path 0 (suc (length (own_attributes e.tree))) (inner_trees e.tree) (suc (n + attributes_at forest n)) (suc (n + below_in forest n)) behind (omega (arith, below_parts e.tree))

pub attributes_trees : (forest : Forest) (n : ℕ) → n < count_in forest
    → trees_numbered forest (attributes_left (suc n) (suc (n + attributes_at forest n))) ≡ map attribute (own_attributes (entry_in forest n).tree)
attributes_trees forest n h =
    let e : NodeEntry = entry_in forest n in
    let A : List NodeEntry = attribute_entries e.place.tree e.place.path 0 (own_attributes e.tree) in
    let C : List NodeEntry = inner_entries e.place.tree e.place.path e.tree in
    map_after (λ (m : NodeId). (entry_in forest m.number).tree) numbered (hops (λ m. 0) (suc n) (suc (n + attributes_at forest n)))
    ∙ attributes_hop forest e.place.tree e.place.path 0 (own_attributes e.tree) (suc n) (suc (n + attributes_at forest n))
    (stands_front (node_entries forest) (suc n) A C (stands_next (node_entries forest) n e (A ++ C) (forest_nests forest n h))) (omega arith)

-- attributes among trees

pub among_back : (l : List Attribute) → attributes_among (map attribute l) ≡ l
among_back [] = refl
among_back (a ∷ l) = ap (λ ls. a ∷ ls) (among_back l)

pub among_joined : (t : PlainTree) (us : List PlainTree) → attributes_among (t ∷ us) ≡ attributes_among (t ∷ []) ++ attributes_among us
among_joined (document ts) us = refl
among_joined (element name kind l ts) us = refl
among_joined (attribute a) us = refl
among_joined (text x) us = refl

-- the one child

no_child : (ts : PlainTrees) → [] ≡ list_of ts → None ≡ only_label ts
no_child no_trees e = refl
no_child (a_tree t ts) e = absurd (cc)

one_child : (ts : PlainTrees) (t : PlainTree) → t ∷ [] ≡ list_of ts → element_label_of t ≡ only_label ts
one_child no_trees t e = absurd (cc)
one_child (a_tree v no_trees) t e = let same : t ≡ v = cc in ap element_label_of same ∙ alone v
  where
    alone : (u : PlainTree) → element_label_of u ≡ only_label (a_tree u no_trees)
    alone (document us) = refl
    alone (element name kind l us) = refl
    alone (attribute a) = refl
    alone (text x) = refl
one_child (a_tree v (a_tree w ts)) t e = absurd (cc)

more_children : (ts : PlainTrees) (t u : PlainTree) (us : List PlainTree) → t ∷ u ∷ us ≡ list_of ts → None ≡ only_label ts
more_children no_trees t u us e = absurd (cc)
more_children (a_tree v no_trees) t u us e = absurd (cc)
more_children (a_tree (document vs) (a_tree w ts)) t u us e = refl
more_children (a_tree (element name kind l vs) (a_tree w ts)) t u us e = refl
more_children (a_tree (attribute a) (a_tree w ts)) t u us e = refl
more_children (a_tree (text x) (a_tree w ts)) t u us e = refl

pub none_alone : (forest : Forest) (n : ℕ) (left : List NodeId) → n < count_in forest → left ≡ children_left forest (suc (n + attributes_at forest n)) (suc (n + below_in forest n)) → left ≡ []
    → None ≡ only_label (inner_trees (entry_in forest n).tree)
none_alone forest n left h e f = no_child (inner_trees (entry_in forest n).tree) (ap (trees_numbered forest) (sym f ∙ e) ∙ children_trees forest n h)

pub one_alone : (forest : Forest) (n : ℕ) (left next : List NodeId) (m : NodeId) → n < count_in forest → left ≡ children_left forest (suc (n + attributes_at forest n)) (suc (n + below_in forest n)) → left ≡ m ∷ next → next ≡ []
    → element_label_of (entry_in forest m.number).tree ≡ only_label (inner_trees (entry_in forest n).tree)
one_alone forest n left next m h e f g =
    one_child (inner_trees (entry_in forest n).tree) (entry_in forest m.number).tree (ap (trees_numbered forest) (ap (λ (ms : List NodeId). m ∷ ms) (sym g) ∙ sym f ∙ e) ∙ children_trees forest n h)

pub several : (forest : Forest) (n : ℕ) (left next more : List NodeId) (m k : NodeId) → n < count_in forest → left ≡ children_left forest (suc (n + attributes_at forest n)) (suc (n + below_in forest n)) → left ≡ m ∷ next → next ≡ k ∷ more
    → None ≡ only_label (inner_trees (entry_in forest n).tree)
several forest n left next more m k h e f g =
    more_children (inner_trees (entry_in forest n).tree) (entry_in forest m.number).tree (entry_in forest k.number).tree (trees_numbered forest more)
    (ap (trees_numbered forest) (ap (λ (ms : List NodeId). m ∷ ms) (sym g) ∙ sym f ∙ e) ∙ children_trees forest n h)

pub second_there : (old new : List NodeId) (r : Option NodeId) → MatchOption r ((old ≡ []) × (new ≡ [])) (λ x. old ≡ x ∷ new) → is_some r ≡ true → (k : NodeId) × (old ≡ k ∷ new)
second_there old new None h e = absurd (cc)
second_there old new (Some x) h e = (x, h)

pub second_none : (old new : List NodeId) (r : Option NodeId) → MatchOption r ((old ≡ []) × (new ≡ [])) (λ x. old ≡ x ∷ new) → is_some r ≡ false → old ≡ []
second_none old new None h e = h.0
second_none old new (Some x) h e = absurd (cc)
