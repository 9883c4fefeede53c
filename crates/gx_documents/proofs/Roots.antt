-- The document nodes of a forest are those of its nodes that have no parent.
use Rattle.std.proofs.Common.{◌≡◌, ℕ, zero, suc, arith, ◌+◌, ◌<◌, ◌≤◌, Bool, true, false, if◌then◌else◌, List, [], ◌∷◌, ◌++◌, map, filter, take, Option, None, Some, refl, sym, ap, ◌∙◌}
use Rattle.std.specs.Prelude.{All, is_some, not}
use Rattle.std.specs.Option.{option_map}
use Rattle.std.proofs.lemmas.List.{map_more, map-append, take_all}
use Rattle.std.proofs.lemmas.List.Elements.{All-append, filter-append}
use Rattle.gx_tree.specs.declared.attribute.Attribute.{Attribute}
use Rattle.gx_tree.specs.PlainTree.{PlainTree, PlainTrees, document, element, attribute, text, no_trees, a_tree}
use Rattle.gx_model.specs.DocumentOrder.{nodes_from}
use Rattle.gx_model.specs.Forest.{Forest, PlainNode, then_found}
use Rattle.gx_model.specs.Growth.{Extends}
use Rattle.gx_model.specs.Location.{Location, along, in_child, attribute_locations, all_locations, child_locations, node_of_tree}
use Rattle.gx_model.specs.Stepping.{behind_step, path_up}
use Rattle.gx_model.proofs.ListLemmas.{append_none, nothing_passes, filter_mapped, map_after}
use Rattle.gx_nodes.specs.Entries.{node_entries, count_in, beyond, place_of_number}
use Rattle.gx_nodes.specs.Near.{parent_in, place_up}
use Rattle.gx_nodes.proofs.FoundLemmas.{node_found}
use Rattle.gx_nodes.proofs.PlaceLemmas.{place_of, places_in_order}
use Rattle.gx_store.specs.declared.number.NodeId.{NodeId}
use Rattle.gx_store.specs.Places.{node_places}
use Rattle.gx_documents.specs.Documents.{document_node, document_nodes_from, document_nodes}

-- nothing is above a place
abbrev pub is_top : PlainNode → Bool
is_top place = not (is_some (place_up place))

-- ---- in a tree, the root alone

there_is_up : (path : List ℕ) (n : ℕ) (P : Option (List ℕ) → Type 0) → ((up : List ℕ) → P (Some up)) → P (path_up (n ∷ path))
there_is_up [] n P h = h []
there_is_up (m ∷ path) n P h = there_is_up path m (λ o. P (behind_step n o)) (λ up. h (n ∷ up))

child_is_below : (number n : ℕ) (to : Location) → is_top (node_of_tree number (in_child n to)) ≡ false
child_is_below number n to = by_attribute to.attribute
  where
    by_attribute : (position : Option ℕ) → is_top (record { tree = number; path = n ∷ to.path; attribute = position }) ≡ false
    by_attribute None = there_is_up to.path n (λ o. not (is_some (option_map (λ path. node_of_tree number (along path)) o)) ≡ false) (λ up. refl)
    by_attribute (Some position) = refl

no_attribute_is_top : (number position : ℕ) (l : List Attribute) → filter is_top (map (node_of_tree number) (attribute_locations position l)) ≡ []
no_attribute_is_top number position [] = refl
no_attribute_is_top number position (a ∷ l) = no_attribute_is_top number (suc position) l

no_child_is_top : (number position : ℕ) (ts : PlainTrees) → filter is_top (map (node_of_tree number) (child_locations position ts)) ≡ []
no_child_is_top number position no_trees = refl
no_child_is_top number position (a_tree t ts) =
    ap (filter is_top) (map-append (node_of_tree number) (map (in_child position) (all_locations t)) (child_locations (suc position) ts))
    ∙ filter-append is_top (map (node_of_tree number) (map (in_child position) (all_locations t))) (map (node_of_tree number) (child_locations (suc position) ts))
    ∙ ap (λ (ns : List PlainNode). ns ++ filter is_top (map (node_of_tree number) (child_locations (suc position) ts))) (
    ap (filter is_top) (map_after (node_of_tree number) (in_child position) (all_locations t))
    ∙ filter_mapped is_top (λ to. node_of_tree number (in_child position to)) (all_locations t)
    ∙ ap (map (λ to. node_of_tree number (in_child position to))) (nothing_passes (λ to. is_top (node_of_tree number (in_child position to))) (child_is_below number position) (all_locations t))
    )
    ∙ no_child_is_top number (suc position) ts

root_is_top : (number : ℕ) (t : PlainTree) → filter is_top (map (node_of_tree number) (all_locations t)) ≡ document_node number ∷ []
root_is_top number (document ts) = ap (λ (ns : List PlainNode). document_node number ∷ ns) (no_child_is_top number 0 ts)
root_is_top number (element name kind l ts) =
    ap (λ (ns : List PlainNode). document_node number ∷ ns) (
    ap (filter is_top) (map-append (node_of_tree number) (attribute_locations 0 l) (child_locations 0 ts))
    ∙ filter-append is_top (map (node_of_tree number) (attribute_locations 0 l)) (map (node_of_tree number) (child_locations 0 ts))
    ∙ ap (λ (ns : List PlainNode). ns ++ filter is_top (map (node_of_tree number) (child_locations 0 ts))) (no_attribute_is_top number 0 l)
    ∙ no_child_is_top number 0 ts
    )
root_is_top number (attribute a) = refl
root_is_top number (text x) = refl

-- ---- in a forest

roots_are_top : (number : ℕ) (forest : Forest) → filter is_top (nodes_from number forest) ≡ document_nodes_from number forest
roots_are_top number [] = refl
roots_are_top number (t ∷ forest) =
    filter-append is_top (map (node_of_tree number) (all_locations t)) (nodes_from (suc number) forest)
    ∙ ap (λ (ns : List PlainNode). ns ++ filter is_top (nodes_from (suc number) forest)) (root_is_top number t)
    ∙ ap (λ (ns : List PlainNode). document_node number ∷ ns) (roots_are_top (suc number) forest)

-- the roots among the first nodes
abbrev pub roots_before : Forest → ℕ → List PlainNode
roots_before forest n = filter is_top (map place_of (take n (node_entries forest)))

pub all_roots : (forest : Forest) (n : ℕ) → count_in forest ≤ n → roots_before forest n ≡ document_nodes forest
all_roots forest n h =
    ap (λ es. filter is_top (map place_of es)) (take_all n (node_entries forest) h) ∙ ap (filter is_top) (places_in_order forest) ∙ roots_are_top 0 forest

-- one node more, with its parent

next_root : (forest : Forest) (n : ℕ) → n < count_in forest → roots_before forest (n + 1) ≡ roots_before forest n ++ filter is_top (place_of_number forest n ∷ [])
next_root forest n h =
    ap (filter is_top) (map_more place_of (node_entries forest) n (beyond forest n) h) ∙ filter-append is_top (map place_of (take n (node_entries forest))) (place_of_number forest n ∷ [])

has_parent : (forest : Forest) (n : ℕ) (parent : Option NodeId) → n < count_in forest → option_map (λ p. place_of_number forest p.number) parent ≡ parent_in forest (place_of_number forest n)
    → is_some (place_up (place_of_number forest n)) ≡ is_some parent
has_parent forest n parent h e =
    sym (same parent ∙ ap is_some (e ∙ ap (λ (o : Option PlainTree). then_found o (λ t. place_up (place_of_number forest n))) (node_found forest n h)))
  where
    same : (o : Option NodeId) → is_some o ≡ is_some (option_map (λ p. place_of_number forest p.number) o)
    same None = refl
    same (Some p) = refl

one_passes : (b : Bool) (place : PlainNode) → is_top place ≡ b → filter is_top (place ∷ []) ≡ (if b then place ∷ [] else [])
one_passes b place e = ap (λ (c : Bool). if c then place ∷ [] else []) e

pub root_is_next : (forest : Forest) (nodes : List NodeId) (n : ℕ) (parent : Option NodeId) → n < count_in forest
    → option_map (λ p. place_of_number forest p.number) parent ≡ parent_in forest (place_of_number forest n) → is_some parent ≡ false
    → node_places forest nodes ≡ roots_before forest n → node_places forest (nodes ++ record { number = n } ∷ []) ≡ roots_before forest (n + 1)
root_is_next forest nodes n parent h e test before =
    map-append (λ (m : NodeId). place_of_number forest m.number) nodes (record { number = n } ∷ [])
    ∙ ap (λ (ns : List PlainNode). ns ++ place_of_number forest n ∷ []) before
    ∙ ap (λ (ns : List PlainNode). roots_before forest n ++ ns) (sym (one_passes true (place_of_number forest n) (ap not (has_parent forest n parent h e ∙ test))))
    ∙ sym (next_root forest n h)

pub other_is_next : (forest : Forest) (nodes : List NodeId) (n : ℕ) (parent : Option NodeId) → n < count_in forest
    → option_map (λ p. place_of_number forest p.number) parent ≡ parent_in forest (place_of_number forest n) → is_some parent ≡ true
    → node_places forest nodes ≡ roots_before forest n → node_places forest nodes ≡ roots_before forest (n + 1)
other_is_next forest nodes n parent h e test before =
    before ∙ sym (append_none (roots_before forest n))
    ∙ ap (λ (ns : List PlainNode). roots_before forest n ++ ns) (sym (one_passes false (place_of_number forest n) (ap not (has_parent forest n parent h e ∙ test))))
    ∙ sym (next_root forest n h)

-- and the numbers are those of nodes

pub one_within : (forest : Forest) (nodes : List NodeId) (n : ℕ) → n < count_in forest → All (λ m. m.number < count_in forest) nodes → All (λ m. m.number < count_in forest) (nodes ++ record { number = n } ∷ [])
one_within forest nodes n h all = All-append (λ (m : NodeId). m.number < count_in forest) nodes (record { number = n } ∷ []) all only
  where
    only : All (λ (m : NodeId). m.number < count_in forest) (record { number = n } ∷ [])
    only zero d g = h
    only (suc k) d g = absurd (omega (arith, g))

pub itself : (forest : Forest) → Extends forest forest
itself forest = record { more = []; is = sym (append_none forest) }
