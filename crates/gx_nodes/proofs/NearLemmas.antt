-- The numbers of what stands near a node.
use Rattle.std.proofs.Common.{◌≡◌, ℕ, suc, ◌+◌, ◌-◌, ◌<◌, ◌≤◌, List, [], ◌∷◌, ◌++◌, map, length, Option, None, Some, refl, sym, ap, ◌∙◌, arith, subst, append_assoc}
use Rattle.std.specs.List.{slice_get}
use Rattle.gx_tree.specs.declared.attribute.Attribute.{Attribute}
use Rattle.gx_tree.specs.PlainTree.{PlainTree, PlainTrees, document, element, attribute, text, no_trees, a_tree}
use Rattle.gx_model.specs.Forest.{Forest, PlainNode, then_found, node_in, own_attributes}
use Rattle.gx_model.specs.Location.{along, node_of_tree}
use Rattle.gx_model.proofs.ListLemmas.{append_none}
use Rattle.gx_nodes.specs.Entries.{NodeEntry, entry_at, count_below, count_of_all, attribute_entries, entries_of, child_entries, node_entries, count_in, beyond, entry_in, place_of_number}
use Rattle.gx_nodes.specs.Near.{place_up, places_where_found, inner_trees, child_places, attribute_places, places_below, places_of_all, parent_in, attributes_in, child_nodes_in, descendants_in}
use Rattle.gx_nodes.specs.Hops.{hops}
use Rattle.gx_nodes.proofs.Standing.{Stands, stands_front, stands_behind, stands_first, stands_next, got_from, within_from}
use Rattle.gx_nodes.proofs.EntryLemmas.{inner_entries, below_of, entries_parts, below_parts, length_tree, length_attributes, forest_nests}
use Rattle.gx_nodes.proofs.FoundLemmas.{node_found, entry_stays, place_is_not_there}
use Rattle.gx_nodes.proofs.ParentLemmas.{root_has_none, parent_is}
use Rattle.gx_nodes.proofs.HopLemmas.{hops_end, hops_more}

-- how numbers stand for node_entries: where each stands, and how many are left out behind it
pub record Reads (all : List NodeEntry) (place : ℕ → PlainNode) (left_out : ℕ → ℕ) (size : PlainTree → ℕ) : Type 0 where
  pub places : (n : ℕ) (e : NodeEntry) → slice_get all n ≡ Some e → place n ≡ e.place
  pub sizes : (n : ℕ) (e : NodeEntry) → slice_get all n ≡ Some e → left_out n ≡ size e.tree

-- one number, and those behind what it leaves out
one_hop : (all : List NodeEntry) (place : ℕ → PlainNode) (left_out : ℕ → ℕ) (size : PlainTree → ℕ) (r : Reads all place left_out size) (n end : ℕ) (e : NodeEntry) (es : List NodeEntry)
    → Stands all n (e ∷ es) → n < end → map place (hops left_out n end) ≡ e.place ∷ map place (hops left_out (suc (n + size e.tree)) end)
one_hop all place left_out size r n end e es s h =
    let there = stands_first all n e es s in
    ap (map place) (hops_more left_out n end h)
    ∙ ap (λ (p : PlainNode). p ∷ map place (hops left_out (suc (n + left_out n)) end)) (r.places n e there)
    ∙ ap (λ (k : ℕ). e.place ∷ map place (hops left_out (suc (n + k)) end)) (r.sizes n e there)

pub kids_hop : (all : List NodeEntry) (place : ℕ → PlainNode) (left_out : ℕ → ℕ) (r : Reads all place left_out count_below) (number : ℕ) (path : List ℕ) (position up : ℕ) (ts : PlainTrees) (n end : ℕ)
    → Stands all n (child_entries number path position up ts) → end ≡ n + count_of_all ts → map place (hops left_out n end) ≡ child_places number path position ts
kids_hop all place left_out r number path position up no_trees n end s e = ap (map place) (hops_end left_out n end (omega (arith, e)))
kids_hop all place left_out r number path position up (a_tree t ts) n end s e =
    let here : List ℕ = path ++ position ∷ [] in
    let T : List NodeEntry = entries_of number here up t in
    let C : List NodeEntry = child_entries number path (suc position) (up + suc (count_below t)) ts in
    let first = subst (λ (es : List NodeEntry). Stands all n es) (entries_parts number here up t) (stands_front all n T C s) in
    let m : ℕ = suc (n + count_below t) in
    one_hop all place left_out count_below r n end (entry_at number here None up t) (below_of number here t) first (omega (arith, e))
    ∙ ap (λ (ps : List PlainNode). node_of_tree number (along here) ∷ ps)
    (kids_hop all place left_out r number path (suc position) (up + suc (count_below t)) ts m end (stands_behind all n m T C (omega (arith, length_tree number here up t)) s) (omega (arith, e)))

abbrev pub no_size : PlainTree → ℕ
no_size t = 0

pub attributes_hop : (all : List NodeEntry) (place : ℕ → PlainNode) (left_out : ℕ → ℕ) (r : Reads all place left_out no_size) (number : ℕ) (path : List ℕ) (position : ℕ) (l : List Attribute) (n end : ℕ)
    → Stands all n (attribute_entries number path position l) → end ≡ n + length l → map place (hops left_out n end) ≡ attribute_places number path position l
attributes_hop all place left_out r number path position [] n end s e = ap (map place) (hops_end left_out n end (omega (arith, e)))
attributes_hop all place left_out r number path position (a ∷ l) n end s e =
    let x : NodeEntry = entry_at number path (Some position) (suc position) (attribute a) in
    let A : List NodeEntry = attribute_entries number path (suc position) l in
    let next : suc (n + 0) ≡ suc n = omega arith in
    one_hop all place left_out no_size r n end x A s (omega (arith, e))
    ∙ ap (λ (m : ℕ). x.place ∷ map place (hops left_out m end)) next
    ∙ ap (λ (ps : List PlainNode). x.place ∷ ps) (attributes_hop all place left_out r number path (suc position) l (suc n) end (stands_next all n x A s) (omega (arith, e)))

abbrev pub attribute_count : PlainTree → ℕ
attribute_count t = length (own_attributes t)

abbrev HopsOver : (ℕ → PlainNode) → (ℕ → ℕ) → List PlainNode → ℕ → ℕ → ℕ → Type 0
HopsOver place left_out ps n m end = map place (hops left_out n end) ≡ ps ++ map place (hops left_out m end)

inner_places : (number : ℕ) (path : List ℕ) (t : PlainTree) → places_of_all number path 0 (inner_trees t) ≡ places_below number path t
inner_places number path (document ts) = refl
inner_places number path (element name kind l ts) = refl
inner_places number path (attribute a) = refl
inner_places number path (text x) = refl

module _ (all : List NodeEntry) (place : ℕ → PlainNode) (left_out : ℕ → ℕ) (r : Reads all place left_out attribute_count) (end : ℕ) where
  abbrev InnerHops : ℕ → List ℕ → PlainTree → Type 0
  InnerHops number path t =
      (n m : ℕ) → Stands all n (inner_entries number path t) → m ≡ n + count_of_all (inner_trees t) → m ≤ end
      → HopsOver place left_out (places_of_all number path 0 (inner_trees t)) n m end

  tree_hop : (number : ℕ) (path : List ℕ) (up : ℕ) (t : PlainTree) → InnerHops number path t → (n m : ℕ) → Stands all n (entries_of number path up t) → m ≡ n + suc (count_below t) → m ≤ end
      → HopsOver place left_out (node_of_tree number (along path) ∷ places_below number path t) n m end
  tree_hop number path up t inner n m s e h =
      let x : NodeEntry = entry_at number path None up t in
      let A : List NodeEntry = attribute_entries number path 0 (own_attributes t) in
      let s' = subst (λ (es : List NodeEntry). Stands all n es) (entries_parts number path up t) s in
      let k : ℕ = suc (n + attribute_count t) in
      let behind = stands_behind all (suc n) k A (inner_entries number path t) (omega (arith, length_attributes number path 0 (own_attributes t))) (stands_next all n x (A ++ inner_entries number path t) s') in
      one_hop all place left_out attribute_count r n end x (A ++ inner_entries number path t) s' (omega (arith, e, h))
      ∙ ap (λ (ps : List PlainNode). x.place ∷ ps) (inner k m behind (omega (arith, e, below_parts t)) h)
      ∙ ap (λ (ps : List PlainNode). x.place ∷ (ps ++ map place (hops left_out m end))) (inner_places number path t)

  mutual
    inner_hop : (number : ℕ) (path : List ℕ) (t : PlainTree) → InnerHops number path t
    inner_hop number path (document ts) n m s e h = trees_hop number path 0 1 ts n m s e h
    inner_hop number path (element name kind l ts) n m s e h = trees_hop number path 0 (suc (length l)) ts n m s e h
    inner_hop number path (attribute a) n m s e h = ap (λ (k : ℕ). map place (hops left_out k end)) (omega (arith, e))
    inner_hop number path (text x) n m s e h = ap (λ (k : ℕ). map place (hops left_out k end)) (omega (arith, e))

    trees_hop : (number : ℕ) (path : List ℕ) (position up : ℕ) (ts : PlainTrees) (n m : ℕ) → Stands all n (child_entries number path position up ts) → m ≡ n + count_of_all ts → m ≤ end
        → HopsOver place left_out (places_of_all number path position ts) n m end
    trees_hop number path position up no_trees n m s e h = ap (λ (k : ℕ). map place (hops left_out k end)) (omega (arith, e))
    trees_hop number path position up (a_tree t ts) n m s e h =
        let here : List ℕ = path ++ position ∷ [] in
        let T : List NodeEntry = entries_of number here up t in
        let C : List NodeEntry = child_entries number path (suc position) (up + suc (count_below t)) ts in
        let k : ℕ = n + suc (count_below t) in
        let ps : List PlainNode = node_of_tree number (along here) ∷ places_below number here t in
        tree_hop number here up t (inner_hop number here t) n k (stands_front all n T C s) refl (omega (arith, e, h))
        ∙ ap (λ (qs : List PlainNode). ps ++ qs) (trees_hop number path (suc position) (up + suc (count_below t)) ts k m (stands_behind all n k T C (omega (arith, length_tree number here up t)) s) (omega (arith, e)) h)
        ∙ sym (append_assoc ps (places_of_all number path (suc position) ts) (map place (hops left_out m end)))

  pub below_hop : (number : ℕ) (path : List ℕ) (t : PlainTree) (n : ℕ) → Stands all n (inner_entries number path t) → end ≡ n + count_of_all (inner_trees t)
      → map place (hops left_out n end) ≡ places_below number path t
  below_hop number path t n s e =
      inner_hop number path t n end s e (omega arith)
      ∙ ap (λ (ns : List ℕ). places_of_all number path 0 (inner_trees t) ++ map place ns) (hops_end left_out end end (omega arith))
      ∙ append_none (places_of_all number path 0 (inner_trees t))
      ∙ inner_places number path t

-- in a forest, and in each that it grows to

-- how many nodes are below the node of a number, and how many attributes it has
abbrev pub below_in : Forest → ℕ → ℕ
below_in forest n = count_below (entry_in forest n).tree

abbrev pub attributes_at : Forest → ℕ → ℕ
attributes_at forest n = attribute_count (entry_in forest n).tree

reads : (forest more : Forest) (size : PlainTree → ℕ) → Reads (node_entries forest) (place_of_number (forest ++ more)) (λ n. size (entry_in forest n).tree) size
reads forest more size = record {
  places = λ n e h. ap (λ (x : NodeEntry). x.place) (entry_stays forest more n (within_from (node_entries forest) n e h) ∙ got_from (node_entries forest) n e (beyond forest n) h);
  sizes = λ n e h. ap (λ (x : NodeEntry). size x.tree) (got_from (node_entries forest) n e (beyond forest n) h);
}

reads_no_size : (forest more : Forest) → Reads (node_entries forest) (place_of_number (forest ++ more)) (λ n. 0) no_size
reads_no_size forest more = record { places = (reads forest more no_size).places; sizes = λ n e h. refl }

inner_stands : (forest : Forest) (n : ℕ) → n < count_in forest
    → Stands (node_entries forest) (suc (n + attributes_at forest n)) (inner_entries (place_of_number forest n).tree (place_of_number forest n).path (entry_in forest n).tree)
inner_stands forest n h =
    let e : NodeEntry = entry_in forest n in
    let A : List NodeEntry = attribute_entries e.place.tree e.place.path 0 (own_attributes e.tree) in
    let C : List NodeEntry = inner_entries e.place.tree e.place.path e.tree in
    stands_behind (node_entries forest) (suc n) (suc (n + attributes_at forest n)) A C (omega (arith, length_attributes e.place.tree e.place.path 0 (own_attributes e.tree)))
    (stands_next (node_entries forest) n e (A ++ C) (forest_nests forest n h))

attributes_stand : (forest : Forest) (n : ℕ) → n < count_in forest
    → Stands (node_entries forest) (suc n) (attribute_entries (place_of_number forest n).tree (place_of_number forest n).path 0 (own_attributes (entry_in forest n).tree))
attributes_stand forest n h =
    let e : NodeEntry = entry_in forest n in
    let A : List NodeEntry = attribute_entries e.place.tree e.place.path 0 (own_attributes e.tree) in
    let C : List NodeEntry = inner_entries e.place.tree e.place.path e.tree in
    stands_front (node_entries forest) (suc n) A C (stands_next (node_entries forest) n e (A ++ C) (forest_nests forest n h))

-- what a node has, by its place
at_place : (forest more : Forest) (n : ℕ) → n < count_in forest → (places : PlainNode → PlainTree → List PlainNode)
    → places (place_of_number forest n) (entry_in forest n).tree ≡ places_where_found (node_in forest (place_of_number (forest ++ more) n)) (places (place_of_number (forest ++ more) n))
at_place forest more n h places =
    let same : place_of_number (forest ++ more) n ≡ place_of_number forest n = ap (λ (x : NodeEntry). x.place) (entry_stays forest more n h) in
    ap (λ (o : Option PlainTree). places_where_found o (places (place_of_number forest n))) (sym (node_found forest n h))
    ∙ ap (λ (p : PlainNode). places_where_found (node_in forest p) (places p)) (sym same)

pub children_hops : (forest more : Forest) (n : ℕ) → n < count_in forest
    → map (place_of_number (forest ++ more)) (hops (below_in forest) (suc (n + attributes_at forest n)) (suc (n + below_in forest n))) ≡ child_nodes_in forest (place_of_number (forest ++ more) n)
children_hops forest more n h =
    let e : NodeEntry = entry_in forest n in
    kids_hop (node_entries forest) (place_of_number (forest ++ more)) (below_in forest) (reads forest more count_below) e.place.tree e.place.path 0 (suc (attribute_count e.tree)) (inner_trees e.tree)
    (suc (n + attributes_at forest n)) (suc (n + below_in forest n)) (inner_stands forest n h) (omega (arith, below_parts e.tree))
    ∙ at_place forest more n h (λ p t. child_places p.tree p.path 0 (inner_trees t))

pub attributes_hops : (forest more : Forest) (n : ℕ) → n < count_in forest
    → map (place_of_number (forest ++ more)) (hops (λ m. 0) (suc n) (suc (n + attributes_at forest n))) ≡ attributes_in forest (place_of_number (forest ++ more) n)
attributes_hops forest more n h =
    let e : NodeEntry = entry_in forest n in
    attributes_hop (node_entries forest) (place_of_number (forest ++ more)) (λ m. 0) (reads_no_size forest more) e.place.tree e.place.path 0 (own_attributes e.tree)
    (suc n) (suc (n + attributes_at forest n)) (attributes_stand forest n h) (omega arith)
    ∙ at_place forest more n h (λ p t. attribute_places p.tree p.path 0 (own_attributes t))

pub descendants_hops : (forest more : Forest) (n : ℕ) → n < count_in forest
    → map (place_of_number (forest ++ more)) (hops (attributes_at forest) (suc (n + attributes_at forest n)) (suc (n + below_in forest n))) ≡ descendants_in forest (place_of_number (forest ++ more) n)
descendants_hops forest more n h =
    let e : NodeEntry = entry_in forest n in
    below_hop (node_entries forest) (place_of_number (forest ++ more)) (attributes_at forest) (reads forest more attribute_count) (suc (n + below_in forest n)) e.place.tree e.place.path e.tree
    (suc (n + attributes_at forest n)) (inner_stands forest n h) (omega (arith, below_parts e.tree))
    ∙ at_place forest more n h (λ p t. places_below p.tree p.path t)

-- past all nodes there is nothing

pub nothing_at : (forest more : Forest) (n : ℕ) → count_in forest ≤ n → (places : PlainTree → List PlainNode) → places_where_found (node_in forest (place_of_number (forest ++ more) n)) places ≡ []
nothing_at forest more n h places = ap (λ (o : Option PlainTree). places_where_found o places) (place_is_not_there forest more n h)

pub no_parent_at : (forest more : Forest) (n : ℕ) → count_in forest ≤ n → parent_in forest (place_of_number (forest ++ more) n) ≡ None
no_parent_at forest more n h = ap (λ (o : Option PlainTree). then_found o (λ t. place_up (place_of_number (forest ++ more) n))) (place_is_not_there forest more n h)

parent_of_place : (forest more : Forest) (n : ℕ) → n < count_in forest → parent_in forest (place_of_number (forest ++ more) n) ≡ place_up (place_of_number forest n)
parent_of_place forest more n h =
    let same : place_of_number (forest ++ more) n ≡ place_of_number forest n = ap (λ (x : NodeEntry). x.place) (entry_stays forest more n h) in
    ap (parent_in forest) same ∙ ap (λ (o : Option PlainTree). then_found o (λ t. place_up (place_of_number forest n))) (node_found forest n h)

pub no_parent : (forest more : Forest) (n : ℕ) → n < count_in forest → (entry_in forest n).up ≡ 0 → parent_in forest (place_of_number (forest ++ more) n) ≡ None
no_parent forest more n h e = parent_of_place forest more n h ∙ root_has_none forest n h e

pub parent_before : (forest more : Forest) (n : ℕ) → n < count_in forest → 0 < (entry_in forest n).up
    → parent_in forest (place_of_number (forest ++ more) n) ≡ Some (place_of_number (forest ++ more) (n - (entry_in forest n).up))
parent_before forest more n h b =
    let m : ℕ = n - (entry_in forest n).up in
    let stays : place_of_number (forest ++ more) m ≡ place_of_number forest m = ap (λ (x : NodeEntry). x.place) (entry_stays forest more m (omega (arith, h))) in
    parent_of_place forest more n h ∙ (parent_is forest n h b).1 ∙ ap (λ p. Some p) (sym stays)
