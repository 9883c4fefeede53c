-- Nodes that are there have the same trees, axes, order and shapes where the forest grows.
use Rattle.std.proofs.Common.{◌≡◌, ℕ, zero, suc, ◌+◌, ◌<◌, Bool, true, false, ◌&&◌, ◌||◌, List, [], ◌∷◌, ◌++◌, length, map, filter, Option, None, Some, refl, sym, ◌∙◌, ap, subst, arith, nat_eq}
use Rattle.std.specs.List.{slice_get, list_any}
use Rattle.std.specs.Option.{option_map}
use Rattle.std.proofs.lemmas.Bool.{and_parts}
use Rattle.std.proofs.lemmas.List.Elements.{filter-append}
use Rattle.gx_facets.specs.declared.Atomic.{Atomic}
use Rattle.gx_types.specs.SchemaSet.{SchemaSet}
use Rattle.gx_types.specs.declared.step.Axis.{Axis}
use Rattle.gx_types.specs.declared.step.Test.{Test}
use Rattle.gx_tree.specs.PlainTree.{PlainTree}
use Rattle.gx_model.specs.Forest.{Forest, PlainNode, then_found, tree_at, attribute_at, node_in}
use Rattle.gx_model.specs.Location.{Location, all_locations, located, location_of, node_of_tree}
use Rattle.gx_model.specs.Axes.{leads_to, passes, passes_there, locations_on, nodes_in_tree, on_axis}
use Rattle.gx_model.specs.DocumentOrder.{nodes_from, same_node, in_document_order}
use Rattle.gx_model.specs.Growth.{Extends}
use Rattle.gx_model.specs.Item.{Item, atom, node, atoms}
use Rattle.gx_model.specs.Belongs.{shape_of, item_shape}
use Rattle.gx_model.specs.OrderLaws.{Every}
use Rattle.gx_model.specs.Roots.{root_of}
use Rattle.gx_model.proofs.ListLemmas.{nothing_passes, filter_mapped}
use Rattle.gx_model.proofs.LocationLemmas.{nat_differs}
use Rattle.gx_model.proofs.OrderLemmas.{nodes_same}
use Rattle.gx_growth_laws.specs.Steady.{HasNode, IsThere, AreThere}
use Rattle.gx_growth_laws.proofs.ListFacts.{every_of, every_made, every_passing, every_so}

-- ---- trees and nodes; `tree_stays` stands in gx_model's `PublicLaws` as well, where it is private

tree_stays : (before more : Forest) (number : ℕ) (t : PlainTree) → slice_get before number ≡ Some t → slice_get (before ++ more) number ≡ Some t
tree_stays [] more number t e = cc
tree_stays (u ∷ us) more zero t e = e
tree_stays (u ∷ us) more (suc number) t e = tree_stays us more number t e

pub tree_of_node : (before now : Forest) → Extends before now → (number : ℕ) (t : PlainTree) → slice_get before number ≡ Some t → slice_get now number ≡ Some t
tree_of_node before now e number t h = subst (λ forest. slice_get forest number ≡ Some t) (sym e.is) (tree_stays before e.more number t h)

-- the tree of the number of a node that is there
record HasTree (forest : Forest) (place : PlainNode) : Type 0 where
  pub whole : PlainTree
  pub stands : slice_get forest place.tree ≡ Some whole

tree_there : (forest : Forest) (place : PlainNode) → HasNode forest place → HasTree forest place
tree_there forest place h = by_found (slice_get forest place.tree) refl h.found
  where
    by_found : (found : Option PlainTree) → slice_get forest place.tree ≡ found
        → then_found found (λ t. then_found (tree_at t place.path) (attribute_at place.attribute)) ≡ Some h.tree → HasTree forest place
    by_found None e f = absurd (cc)
    by_found (Some t) e f = record { whole = t; stands = e }

-- the same tree in both forests
pub same_whole : (before now : Forest) → Extends before now → (place : PlainNode) → HasNode before place
    → slice_get now place.tree ≡ slice_get before place.tree
same_whole before now e place h =
    let t = tree_there before place h in tree_of_node before now e place.tree t.whole t.stands ∙ sym t.stands

pub same_tree : (before now : Forest) → Extends before now → (place : PlainNode) → HasNode before place → node_in now place ≡ node_in before place
same_tree before now e place h =
    ap (λ found. then_found found (λ t. then_found (tree_at t place.path) (attribute_at place.attribute))) (same_whole before now e place h)

pub node_stays : (before now : Forest) → Extends before now → (place : PlainNode) → HasNode before place → HasNode now place
node_stays before now e place h = record { tree = h.tree; found = same_tree before now e place h ∙ h.found }

-- ---- roots and axes

pub root_there : (forest : Forest) (place : PlainNode) → HasNode forest place → HasNode forest (root_of place)
root_there forest place h =
    let t = tree_there forest place h in
    record {
      tree = t.whole;
      found = ap (λ found. then_found found (λ u. then_found (Some u) (attribute_at None))) t.stands;
    }

-- what passes a test is there
passing_there : (forest : Forest) (test : PlainTree → Bool) (tree : ℕ) (t : PlainTree) (to : Location) → slice_get forest tree ≡ Some t
    → passes_there test (located t to) ≡ true → HasNode forest (node_of_tree tree to)
passing_there forest test tree t to e h = by_found (located t to) refl h
  where
    by_found : (found : Option PlainTree) → located t to ≡ found → passes_there test found ≡ true → HasNode forest (node_of_tree tree to)
    by_found None f p = absurd (cc)
    by_found (Some u) f p = record {
      tree = u;
      found = ap (λ found. then_found found (λ v. then_found (tree_at v to.path) (attribute_at to.attribute))) e ∙ f;
    }

pub axis_there : (schemas : SchemaSet) (forest : Forest) (place : PlainNode) (axis : Axis) (asks : Test)
    → Every (HasNode forest) (on_axis schemas forest place axis asks)
axis_there schemas forest place axis asks = by_found (slice_get forest place.tree) refl
  where
    by_found : (found : Option PlainTree) → slice_get forest place.tree ≡ found
        → Every (HasNode forest) (nodes_in_tree found place.tree (locations_on (leads_to axis (location_of place)) (passes schemas axis asks)))
    by_found None e = tt
    by_found (Some t) e =
        every_made (HasNode forest) (node_of_tree place.tree) (locations_on (leads_to axis (location_of place)) (passes schemas axis asks) t)
        (every_passing (λ to. HasNode forest (node_of_tree place.tree to))
        (λ to. leads_to axis (location_of place) to && passes_there (passes schemas axis asks) (located t to)) (all_locations t)
        (λ to h. passing_there forest (passes schemas axis asks) place.tree t to e
        (and_parts (leads_to axis (location_of place) to) (passes_there (passes schemas axis asks) (located t to)) h).1))

pub same_axis : (schemas : SchemaSet) (before now : Forest) → Extends before now → (place : PlainNode) (axis : Axis) (asks : Test) → HasNode before place
    → on_axis schemas now place axis asks ≡ on_axis schemas before place axis asks
same_axis schemas before now e place axis asks h =
    ap (λ found. nodes_in_tree found place.tree (locations_on (leads_to axis (location_of place)) (passes schemas axis asks)))
    (same_whole before now e place h)

-- ---- document order

-- the number of a tree is below how many there are
below_length : (ts : Forest) (n : ℕ) (t : PlainTree) → slice_get ts n ≡ Some t → n < length ts
below_length [] n t e = absurd (cc)
below_length (u ∷ us) zero t e = omega arith
below_length (u ∷ us) (suc n) t e = let rest = below_length us n t e in omega (arith, rest)

tree_below : (forest : Forest) (place : PlainNode) → HasNode forest place → place.tree < length forest
tree_below forest place h = let t = tree_there forest place h in below_length forest place.tree t.whole t.stands

-- a node of a later tree is none of some nodes
not_one_of : (k : ℕ) (to : Location) (nodes : List PlainNode) → Every (λ n. n.tree < k) nodes → list_any (same_node (node_of_tree k to)) nodes ≡ false
not_one_of k to [] h = refl
not_one_of k to (n ∷ nodes) h =
    let elsewhere : nat_eq k n.tree ≡ false = nat_differs k n.tree (λ same. let below = h.0 in absurd (omega arith)) in
    rw elsewhere (not_one_of k to nodes h.1)

-- in the trees from a number on there is none of the nodes of trees below
none_later : (nodes : List PlainNode) (k : ℕ) (more : Forest) → Every (λ n. n.tree < k) nodes
    → filter (λ n. list_any (same_node n) nodes) (nodes_from k more) ≡ []
none_later nodes k [] h = refl
none_later nodes k (t ∷ more) h =
    filter-append (λ n. list_any (same_node n) nodes) (map (node_of_tree k) (all_locations t)) (nodes_from (suc k) more)
    ∙ ap (λ ns. ns ++ filter (λ n. list_any (same_node n) nodes) (nodes_from (suc k) more))
    (filter_mapped (λ n. list_any (same_node n) nodes) (node_of_tree k) (all_locations t)
    ∙ ap (map (node_of_tree k)) (nothing_passes (λ to. list_any (same_node (node_of_tree k to)) nodes) (λ to. not_one_of k to nodes h) (all_locations t)))
    ∙ none_later nodes (suc k) more (every_so (λ n. n.tree < k) (λ n. n.tree < suc k) nodes (λ n below. omega (arith, below)) h)

order_from : (nodes : List PlainNode) (k : ℕ) (before more : Forest) → Every (λ n. n.tree < k + length before) nodes
    → filter (λ n. list_any (same_node n) nodes) (nodes_from k (before ++ more)) ≡ filter (λ n. list_any (same_node n) nodes) (nodes_from k before)
order_from nodes k [] more h =
    none_later nodes k more (every_so (λ n. n.tree < k + 0) (λ n. n.tree < k) nodes (λ n below. omega (arith, below)) h)
order_from nodes k (t ∷ before) more h =
    filter-append (λ n. list_any (same_node n) nodes) (map (node_of_tree k) (all_locations t)) (nodes_from (suc k) (before ++ more))
    ∙ ap (λ ns. filter (λ n. list_any (same_node n) nodes) (map (node_of_tree k) (all_locations t)) ++ ns)
    (order_from nodes (suc k) before more
    (every_so (λ n. n.tree < k + length (t ∷ before)) (λ n. n.tree < suc k + length before) nodes (λ n below. omega (arith, below)) h))
    ∙ sym (filter-append (λ n. list_any (same_node n) nodes) (map (node_of_tree k) (all_locations t)) (nodes_from (suc k) before))

pub same_order : (before now : Forest) → Extends before now → (nodes : List PlainNode) → Every (HasNode before) nodes
    → in_document_order now nodes ≡ in_document_order before nodes
same_order before now e nodes h =
    ap (λ forest. in_document_order forest nodes) e.is
    ∙ order_from nodes 0 before e.more
    (every_so (HasNode before) (λ n. n.tree < 0 + length before) nodes (λ n there. let below = tree_below before n there in omega (arith, below)) h)

one_of_these : (forest : Forest) (n : PlainNode) (nodes : List PlainNode) → Every (HasNode forest) nodes → list_any (same_node n) nodes ≡ true → HasNode forest n
one_of_these forest n [] h e = absurd (cc)
one_of_these forest n (m ∷ nodes) h e = by_test (same_node n m) refl e (one_of_these forest n nodes h.1)
  where
    by_test : (b : Bool) → same_node n m ≡ b → (b || list_any (same_node n) nodes) ≡ true → (list_any (same_node n) nodes ≡ true → HasNode forest n)
        → HasNode forest n
    by_test true f g rest = subst (HasNode forest) (sym (nodes_same n m f)) h.0
    by_test false f g rest = rest g

pub ordered_there : (forest : Forest) (nodes : List PlainNode) → Every (HasNode forest) nodes → Every (HasNode forest) (in_document_order forest nodes)
ordered_there forest nodes h =
    every_passing (HasNode forest) (λ n. list_any (same_node n) nodes) (nodes_from 0 forest) (λ n e. one_of_these forest n nodes h e)

-- ---- shapes

pub same_shape : (before now : Forest) → Extends before now → (x : Item) → IsThere before x → item_shape now x ≡ item_shape before x
same_shape before now e (atom a) h = refl
same_shape before now e (node place) h = ap (option_map shape_of) (same_tree before now e place h)

pub nodes_there : (forest : Forest) (places : List PlainNode) → Every (HasNode forest) places → AreThere forest (map node places)
nodes_there forest places h = every_made (IsThere forest) node places h

pub atoms_there : (forest : Forest) (values : List Atomic) → AreThere forest (atoms values)
atoms_there forest values = every_made (IsThere forest) atom values (every_of (λ a. IsThere forest (atom a)) values (λ a. tt))
