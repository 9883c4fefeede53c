-- The numbers of nodes are their places in document order.
use Rattle.std.proofs.Common.{◌≡◌, ℕ, suc, ◌+◌, List, [], ◌∷◌, ◌++◌, map, length, Some, refl, sym, ap, ◌∙◌, append_assoc}
use Rattle.gx_tree.specs.declared.attribute.Attribute.{Attribute}
use Rattle.gx_tree.specs.PlainTree.{PlainTree, PlainTrees, document, element, attribute, text, no_trees, a_tree}
use Rattle.gx_model.specs.Forest.{Forest, PlainNode}
use Rattle.gx_model.specs.Location.{Location, along, root_attribute, in_child, attribute_locations, all_locations, child_locations, node_of_tree}
use Rattle.gx_model.specs.DocumentOrder.{nodes_from}
use Rattle.gx_model.proofs.ListLemmas.{append_none, map_after, map_appended, map_agrees}
use Rattle.gx_model.proofs.LocationLemmas.{under}
use Rattle.gx_nodes.specs.Entries.{NodeEntry, count_below, attribute_entries, entries_of, child_entries, entries_from, node_entries}

abbrev pub place_of : NodeEntry → PlainNode
place_of e = e.place

-- the node at a location under a path
abbrev pub placed : ℕ → List ℕ → Location → PlainNode
placed number path to = node_of_tree number (under path to)

pub attribute_places_are : (number : ℕ) (path : List ℕ) (position : ℕ) (l : List Attribute)
    → map place_of (attribute_entries number path position l) ≡ map (placed number path) (attribute_locations position l)
attribute_places_are number path position [] = refl
attribute_places_are number path position (a ∷ l) =
    ap (λ (q : List ℕ). record { tree = number; path = q; attribute = Some position } ∷ map place_of (attribute_entries number path (suc position) l)) (sym (append_none path))
    ∙ ap (λ (ns : List PlainNode). placed number path (root_attribute position) ∷ ns) (attribute_places_are number path (suc position) l)

mutual
  pub tree_places_are : (number : ℕ) (path : List ℕ) (up : ℕ) (t : PlainTree) → map place_of (entries_of number path up t) ≡ map (placed number path) (all_locations t)
  tree_places_are number path up (document ts) =
      ap (λ (q : List ℕ). node_of_tree number (along q) ∷ map place_of (child_entries number path 0 1 ts)) (sym (append_none path))
      ∙ ap (λ (ns : List PlainNode). placed number path (along []) ∷ ns) (children_places_are number path 0 1 ts)
  tree_places_are number path up (element name kind l ts) =
      ap (λ (q : List ℕ). node_of_tree number (along q) ∷ map place_of (attribute_entries number path 0 l ++ child_entries number path 0 (suc (length l)) ts)) (sym (append_none path))
      ∙ ap (λ (ns : List PlainNode). placed number path (along []) ∷ ns) (
      map_appended place_of (attribute_entries number path 0 l) (child_entries number path 0 (suc (length l)) ts)
      ∙ ap (λ (ns : List PlainNode). ns ++ map place_of (child_entries number path 0 (suc (length l)) ts)) (attribute_places_are number path 0 l)
      ∙ ap (λ (ns : List PlainNode). map (placed number path) (attribute_locations 0 l) ++ ns) (children_places_are number path 0 (suc (length l)) ts)
      ∙ sym (map_appended (placed number path) (attribute_locations 0 l) (child_locations 0 ts))
      )
  tree_places_are number path up (attribute a) = ap (λ (q : List ℕ). node_of_tree number (along q) ∷ []) (sym (append_none path))
  tree_places_are number path up (text x) = ap (λ (q : List ℕ). node_of_tree number (along q) ∷ []) (sym (append_none path))

  pub children_places_are : (number : ℕ) (path : List ℕ) (position up : ℕ) (ts : PlainTrees)
      → map place_of (child_entries number path position up ts) ≡ map (placed number path) (child_locations position ts)
  children_places_are number path position up no_trees = refl
  children_places_are number path position up (a_tree t ts) =
      map_appended place_of (entries_of number (path ++ position ∷ []) up t) (child_entries number path (suc position) (up + suc (count_below t)) ts)
      ∙ ap (λ (ns : List PlainNode). ns ++ map place_of (child_entries number path (suc position) (up + suc (count_below t)) ts)) (
      tree_places_are number (path ++ position ∷ []) up t
      ∙ map_agrees (placed number (path ++ position ∷ [])) (λ to. placed number path (in_child position to))
      (λ to. ap (λ (q : List ℕ). record { tree = number; path = q; attribute = to.attribute }) (append_assoc path (position ∷ []) to.path)) (all_locations t)
      ∙ sym (map_after (placed number path) (in_child position) (all_locations t))
      )
      ∙ ap (λ (ns : List PlainNode). map (placed number path) (map (in_child position) (all_locations t)) ++ ns) (children_places_are number path (suc position) (up + suc (count_below t)) ts)
      ∙ sym (map_appended (placed number path) (map (in_child position) (all_locations t)) (child_locations (suc position) ts))

places_from : (number : ℕ) (forest : Forest) → map place_of (entries_from number forest) ≡ nodes_from number forest
places_from number [] = refl
places_from number (t ∷ forest) =
    map_appended place_of (entries_of number [] 0 t) (entries_from (suc number) forest)
    ∙ ap (λ (ns : List PlainNode). ns ++ map place_of (entries_from (suc number) forest)) (tree_places_are number [] 0 t ∙ map_agrees (placed number []) (node_of_tree number) (λ to. refl) (all_locations t))
    ∙ ap (λ (ns : List PlainNode). map (node_of_tree number) (all_locations t) ++ ns) (places_from (suc number) forest)

pub places_in_order : (forest : Forest) → map place_of (node_entries forest) ≡ nodes_from 0 forest
places_in_order forest = places_from 0 forest
