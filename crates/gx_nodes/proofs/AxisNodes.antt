-- The nodes on an axis are those near a node that pass the test.
use Rattle.std.proofs.Common.{◌≡◌, ℕ, suc, ◌+◌, Bool, true, false, ◌&&◌, ◌||◌, List, [], ◌∷◌, ◌++◌, map, filter, Option, None, Some, cond, refl, sym, ap, ◌∙◌, arith, subst, append_assoc, if◌then◌else◌}
use Rattle.std.specs.Prelude.{is_some, option_to_list}
use Rattle.std.specs.List.{slice_get}
use Rattle.std.specs.Option.{option_map, is_none}
use Rattle.std.proofs.lemmas.List.Elements.{filter-append, filter_agree}
use Rattle.gx_types.specs.declared.step.Axis.TheVariants as axes
use Rattle.gx_tree.specs.declared.attribute.Attribute.{Attribute}
use Rattle.gx_tree.specs.PlainTree.{PlainTree, PlainTrees, document, element, attribute, text, no_trees, a_tree, list_of}
use Rattle.gx_model.specs.Forest.{Forest, PlainNode, then_found, children_of, own_attributes, tree_at, attribute_at, node_in}
use Rattle.gx_model.specs.Location.{Location, along, in_child, attribute_locations, all_locations, located, location_of, node_of_tree}
use Rattle.gx_model.specs.Axes.{leads_to, leads_down, to_self, to_descendant, way_down, on_way, locations_on, nodes_in_tree, passes_there}
use Rattle.gx_model.specs.Stepping.{kept_if, found_at, passing_children, attribute_along, passing_attributes, parent_path, found_along}
use Rattle.gx_model.proofs.ListLemmas.{nothing_passes, append_none, map_after, map_appended, map_agrees, filter_mapped}
use Rattle.gx_model.proofs.LocationLemmas.{under, under_found, listed, all_are, no_attribute, down_is_local}
use Rattle.gx_model.proofs.AxisLemmas.{children_are_found, attributes_are_found, self_is_found, parent_is_found}
use Rattle.gx_nodes.specs.Near.{place_up, places_where_found, inner_trees, child_places, attribute_places, places_below, places_of_all, parent_in, attributes_in, child_nodes_in, descendants_in, passes_in}
use Rattle.gx_nodes.proofs.FoundLemmas.{child_found}
use Rattle.gx_nodes.proofs.PlaceLemmas.{placed}

-- by the tree of a node, which may be missing
tie : (forest : Forest) (from : PlainNode) (leads : Location → Bool) (p : PlainTree → Bool) (ns : List PlainNode)
    → (slice_get forest from.tree ≡ None → filter (passes_in forest p) ns ≡ [])
    → ((root : PlainTree) → slice_get forest from.tree ≡ Some root → filter (passes_in forest p) ns ≡ map (node_of_tree from.tree) (locations_on leads p root))
    → filter (passes_in forest p) ns ≡ nodes_in_tree (slice_get forest from.tree) from.tree (locations_on leads p)
tie forest from leads p ns none some = by_tree (slice_get forest from.tree) refl
  where
    by_tree : (found : Option PlainTree) → slice_get forest from.tree ≡ found → filter (passes_in forest p) ns ≡ nodes_in_tree (slice_get forest from.tree) from.tree (locations_on leads p)
    by_tree None e = none e ∙ sym (ap (λ (o : Option PlainTree). nodes_in_tree o from.tree (locations_on leads p)) e)
    by_tree (Some root) e = some root e ∙ sym (ap (λ (o : Option PlainTree). nodes_in_tree o from.tree (locations_on leads p)) e)

-- what a node has, where the tree is there and where it is not

abbrev placed_in : Option PlainTree → PlainNode → Option PlainTree
placed_in found from = then_found found (λ t. located t (location_of from))

pub in_tree : (forest : Forest) (number : ℕ) (to : Location) (found : Option PlainTree) → slice_get forest number ≡ found → node_in forest (node_of_tree number to) ≡ then_found found (λ t. located t to)
in_tree forest number to found e = ap (λ (o : Option PlainTree). then_found o (λ t. located t to)) e

has_in : (forest : Forest) (from : PlainNode) (p : PlainTree → Bool) (places : PlainTree → List PlainNode) (found : Option PlainTree) → slice_get forest from.tree ≡ found
    → filter (passes_in forest p) (places_where_found (node_in forest from) places) ≡ filter (passes_in forest p) (places_where_found (placed_in found from) places)
has_in forest from p places found e = ap (λ (o : Option PlainTree). filter (passes_in forest p) (places_where_found (placed_in o from) places)) e

front_passes : (forest : Forest) (p : PlainTree → Bool) (n : PlainNode) (ns : List PlainNode) → filter (passes_in forest p) (n ∷ ns) ≡ filter (passes_in forest p) (n ∷ []) ++ filter (passes_in forest p) ns
front_passes forest p n ns = filter-append (passes_in forest p) (n ∷ []) ns

kept : (number : ℕ) (b : Bool) (to : Location) → cond b (node_of_tree number to ∷ []) [] ≡ map (node_of_tree number) (kept_if b to)
kept number true to = refl
kept number false to = refl

-- one node of a tree
one_passes : (forest : Forest) (p : PlainTree → Bool) (root : PlainTree) (number : ℕ) (to : Location) → slice_get forest number ≡ Some root
    → filter (passes_in forest p) (node_of_tree number to ∷ []) ≡ map (node_of_tree number) (kept_if (passes_there p (located root to)) to)
one_passes forest p root number to g =
    ap (λ (o : Option PlainTree). cond (passes_there p o) (node_of_tree number to ∷ []) []) (in_tree forest number to (Some root) g) ∙ kept number (passes_there p (located root to)) to

inner_are : (u : PlainTree) → list_of (inner_trees u) ≡ children_of u
inner_are (document ts) = refl
inner_are (element name kind l ts) = refl
inner_are (attribute a) = refl
inner_are (text x) = refl

from_first : {A : Type 0} (xs ys : List A) → xs ≡ ys → (i : ℕ) → slice_get xs (0 + i) ≡ slice_get ys i
from_first xs ys e i = let same : 0 + i ≡ i = omega arith in ap (slice_get xs) same ∙ ap (λ zs. slice_get zs i) e

first_of : {A : Type 0} (xs : List A) (k : ℕ) (x : A) → slice_get xs (k + 0) ≡ Some x → slice_get xs k ≡ Some x
first_of xs k x h = let same : k + 0 ≡ k = omega arith in subst (λ (n : ℕ). slice_get xs n ≡ Some x) same h

next_of : {A : Type 0} (xs ys : List A) (k : ℕ) (x : A) → ((i : ℕ) → slice_get xs (k + i) ≡ slice_get (x ∷ ys) i) → (i : ℕ) → slice_get xs (suc k + i) ≡ slice_get ys i
next_of xs ys k x h i = let same : k + suc i ≡ suc k + i = omega arith in subst (λ (n : ℕ). slice_get xs n ≡ slice_get ys i) same (h (suc i))

-- children

children_pass : (forest : Forest) (p : PlainTree → Bool) (root u : PlainTree) (number : ℕ) (path : List ℕ) (k : ℕ) (ts : PlainTrees) → slice_get forest number ≡ Some root → tree_at root path ≡ Some u
    → ((i : ℕ) → slice_get (children_of u) (k + i) ≡ slice_get (list_of ts) i)
    → filter (passes_in forest p) (child_places number path k ts) ≡ map (node_of_tree number) (passing_children p path k (list_of ts))
children_pass forest p root u number path k no_trees g e h = refl
children_pass forest p root u number path k (a_tree t ts) g e h =
    let to : Location = along (path ++ k ∷ []) in
    let rest : List PlainNode = child_places number path (suc k) ts in
    let there : located root to ≡ Some t = ap (λ (o : Option PlainTree). then_found o (attribute_at None)) (child_found root u t path k e (first_of (children_of u) k t (h 0))) in
    front_passes forest p (node_of_tree number to) rest
    ∙ ap (λ (ns : List PlainNode). ns ++ filter (passes_in forest p) rest)
    (one_passes forest p root number to g ∙ ap (λ (o : Option PlainTree). map (node_of_tree number) (kept_if (passes_there p o) to)) there)
    ∙ ap (λ (ns : List PlainNode). map (node_of_tree number) (kept_if (p t) to) ++ ns) (children_pass forest p root u number path (suc k) ts g e (next_of (children_of u) (list_of ts) k t h))
    ∙ sym (map_appended (node_of_tree number) (kept_if (p t) to) (passing_children p path (suc k) (list_of ts)))

children_at : (forest : Forest) (p : PlainTree → Bool) (root : PlainTree) (number : ℕ) (path : List ℕ) (own : Option ℕ) → slice_get forest number ≡ Some root → (found : Option PlainTree) → tree_at root path ≡ found
    → filter (passes_in forest p) (places_where_found (then_found found (attribute_at own)) (λ t. child_places number path 0 (inner_trees t)))
    ≡ map (node_of_tree number) (if is_some own then [] else found_at found (λ u. passing_children p path 0 (children_of u)))
children_at forest p root number path None g None e = refl
children_at forest p root number path (Some i) g None e = refl
children_at forest p root number path None g (Some u) e =
    children_pass forest p root u number path 0 (inner_trees u) g e (from_first (children_of u) (list_of (inner_trees u)) (sym (inner_are u)))
    ∙ ap (λ (us : List PlainTree). map (node_of_tree number) (passing_children p path 0 us)) (inner_are u)
children_at forest p root number path (Some i) g (Some u) e = no_inner (slice_get (own_attributes u) i)
  where
    no_inner : (a : Option Attribute) → filter (passes_in forest p) (places_where_found (option_map attribute a) (λ t. child_places number path 0 (inner_trees t))) ≡ []
    no_inner None = refl
    no_inner (Some a) = refl

pub children_on_axis : (forest : Forest) (from : PlainNode) (p : PlainTree → Bool)
    → filter (passes_in forest p) (child_nodes_in forest from) ≡ nodes_in_tree (slice_get forest from.tree) from.tree (locations_on (leads_to axes.Child (location_of from)) p)
children_on_axis forest from p =
    tie forest from (leads_to axes.Child (location_of from)) p (child_nodes_in forest from)
    (has_in forest from p (λ t. child_places from.tree from.path 0 (inner_trees t)) None)
    (λ root g.
    has_in forest from p (λ t. child_places from.tree from.path 0 (inner_trees t)) (Some root) g
    ∙ children_at forest p root from.tree from.path from.attribute g (tree_at root from.path) refl
    ∙ ap (map (node_of_tree from.tree)) (children_are_found p (location_of from) root))

-- attributes

attributes_pass : (forest : Forest) (p : PlainTree → Bool) (root u : PlainTree) (number : ℕ) (path : List ℕ) (k : ℕ) (l : List Attribute) → slice_get forest number ≡ Some root → tree_at root path ≡ Some u
    → ((i : ℕ) → slice_get (own_attributes u) (k + i) ≡ slice_get l i)
    → filter (passes_in forest p) (attribute_places number path k l) ≡ map (node_of_tree number) (passing_attributes p path k l)
attributes_pass forest p root u number path k [] g e h = refl
attributes_pass forest p root u number path k (a ∷ l) g e h =
    let to : Location = attribute_along path k in
    let rest : List PlainNode = attribute_places number path (suc k) l in
    let there : located root to ≡ Some (attribute a) =
    ap (λ (o : Option PlainTree). then_found o (attribute_at (Some k))) e ∙ ap (option_map attribute) (first_of (own_attributes u) k a (h 0)) in
    front_passes forest p (node_of_tree number to) rest
    ∙ ap (λ (ns : List PlainNode). ns ++ filter (passes_in forest p) rest)
    (one_passes forest p root number to g ∙ ap (λ (o : Option PlainTree). map (node_of_tree number) (kept_if (passes_there p o) to)) there)
    ∙ ap (λ (ns : List PlainNode). map (node_of_tree number) (kept_if (p (attribute a)) to) ++ ns) (attributes_pass forest p root u number path (suc k) l g e (next_of (own_attributes u) l k a h))
    ∙ sym (map_appended (node_of_tree number) (kept_if (p (attribute a)) to) (passing_attributes p path (suc k) l))

attributes_at : (forest : Forest) (p : PlainTree → Bool) (root : PlainTree) (number : ℕ) (path : List ℕ) (own : Option ℕ) → slice_get forest number ≡ Some root → (found : Option PlainTree) → tree_at root path ≡ found
    → filter (passes_in forest p) (places_where_found (then_found found (attribute_at own)) (λ t. attribute_places number path 0 (own_attributes t)))
    ≡ map (node_of_tree number) (if is_some own then [] else found_at found (λ u. passing_attributes p path 0 (own_attributes u)))
attributes_at forest p root number path None g None e = refl
attributes_at forest p root number path (Some i) g None e = refl
attributes_at forest p root number path None g (Some u) e = attributes_pass forest p root u number path 0 (own_attributes u) g e (from_first (own_attributes u) (own_attributes u) refl)
attributes_at forest p root number path (Some i) g (Some u) e = no_own (slice_get (own_attributes u) i)
  where
    no_own : (a : Option Attribute) → filter (passes_in forest p) (places_where_found (option_map attribute a) (λ t. attribute_places number path 0 (own_attributes t))) ≡ []
    no_own None = refl
    no_own (Some a) = refl

pub attributes_on_axis : (forest : Forest) (from : PlainNode) (p : PlainTree → Bool)
    → filter (passes_in forest p) (attributes_in forest from) ≡ nodes_in_tree (slice_get forest from.tree) from.tree (locations_on (leads_to axes.Attribute (location_of from)) p)
attributes_on_axis forest from p =
    tie forest from (leads_to axes.Attribute (location_of from)) p (attributes_in forest from)
    (has_in forest from p (λ t. attribute_places from.tree from.path 0 (own_attributes t)) None)
    (λ root g.
    has_in forest from p (λ t. attribute_places from.tree from.path 0 (own_attributes t)) (Some root) g
    ∙ attributes_at forest p root from.tree from.path from.attribute g (tree_at root from.path) refl
    ∙ ap (map (node_of_tree from.tree)) (attributes_are_found p (location_of from) root))

-- the node itself

gone_passes : (forest : Forest) (p : PlainTree → Bool) (from : PlainNode) → slice_get forest from.tree ≡ None → filter (passes_in forest p) (from ∷ []) ≡ []
gone_passes forest p from e = ap (λ (o : Option PlainTree). cond (passes_there p o) (from ∷ []) []) (in_tree forest from.tree (location_of from) None e)

pub itself_on_axis : (forest : Forest) (from : PlainNode) (p : PlainTree → Bool)
    → filter (passes_in forest p) (from ∷ []) ≡ nodes_in_tree (slice_get forest from.tree) from.tree (locations_on (leads_to axes.SelfAxis (location_of from)) p)
itself_on_axis forest from p =
    tie forest from (leads_to axes.SelfAxis (location_of from)) p (from ∷ []) (gone_passes forest p from)
    (λ root g. one_passes forest p root from.tree (location_of from) g ∙ ap (map (node_of_tree from.tree)) (self_is_found p (location_of from) root))

-- the parent

along_found : (root : PlainTree) (path : List ℕ) → located root (along path) ≡ tree_at root path
along_found root path = as_found (tree_at root path)
  where
    as_found : (o : Option PlainTree) → then_found o (attribute_at None) ≡ o
    as_found None = refl
    as_found (Some u) = refl

above_passes : (forest : Forest) (p : PlainTree → Bool) (root : PlainTree) (number : ℕ) → slice_get forest number ≡ Some root → (up : Option (List ℕ))
    → filter (passes_in forest p) (option_to_list (option_map (λ path. node_of_tree number (along path)) up)) ≡ map (node_of_tree number) (found_along p up root)
above_passes forest p root number g None = refl
above_passes forest p root number g (Some path) =
    one_passes forest p root number (along path) g ∙ ap (λ (o : Option PlainTree). map (node_of_tree number) (kept_if (passes_there p o) (along path))) (along_found root path)

pub parent_on_axis : (forest : Forest) (from : PlainNode) (p : PlainTree → Bool) (t : PlainTree) → node_in forest from ≡ Some t
    → filter (passes_in forest p) (option_to_list (parent_in forest from)) ≡ nodes_in_tree (slice_get forest from.tree) from.tree (locations_on (leads_to axes.Parent (location_of from)) p)
parent_on_axis forest from p t h =
    tie forest from (leads_to axes.Parent (location_of from)) p (option_to_list (parent_in forest from))
    (λ e. let never : None ≡ Some t = sym (in_tree forest from.tree (location_of from) None e) ∙ h in absurd (cc))
    (λ root g.
    ap (λ (o : Option PlainTree). filter (passes_in forest p) (option_to_list (then_found o (λ u. place_up from)))) h
    ∙ above_passes forest p root from.tree g (parent_path (location_of from))
    ∙ ap (map (node_of_tree from.tree)) (parent_is_found p (location_of from) root))

-- a place of a tree that is not there has nothing on any axis
pub nothing_on_axis : (forest : Forest) (from : PlainNode) (leads : Location → Bool) (p : PlainTree → Bool) → slice_get forest from.tree ≡ None
    → [] ≡ nodes_in_tree (slice_get forest from.tree) from.tree (locations_on leads p)
nothing_on_axis forest from leads p e = sym (ap (λ (o : Option PlainTree). nodes_in_tree o from.tree (locations_on leads p)) e)

-- descendants

abbrev passes_plain : (PlainTree → Bool) → PlainTree → Location → Bool
passes_plain p u to = is_none to.attribute && passes_there p (located u to)

map_front : {A B : Type 0} (f : A → B) (b : Bool) (x : A) (xs : List A) → map f (cond b (x ∷ xs) xs) ≡ cond b (f x ∷ map f xs) (map f xs)
map_front f true x xs = refl
map_front f false x xs = refl

module _ (forest : Forest) (p : PlainTree → Bool) (root : PlainTree) (number : ℕ) (g : slice_get forest number ≡ Some root) where
  there_passes : (u : PlainTree) (path : List ℕ) → tree_at root path ≡ Some u → p u ≡ passes_in forest p (node_of_tree number (along path))
  there_passes u path e = sym (ap (passes_there p) (in_tree forest number (along path) (Some root) g ∙ ap (λ (o : Option PlainTree). then_found o (attribute_at None)) e))

  -- the node at a path and its descendants, where the latter pass as they do
  with_root : (u : PlainTree) (path : List ℕ) (below : List PlainNode) → tree_at root path ≡ Some u
      → map (placed number path) (filter (passes_plain p u) (listed 0 (children_of u))) ≡ filter (passes_in forest p) below
      → map (placed number path) (filter (passes_plain p u) (all_locations u)) ≡ filter (passes_in forest p) (node_of_tree number (along path) ∷ below)
  with_root u path below e rest =
      let F : Location → Bool = passes_plain p u in
      let L : List Location = listed 0 (children_of u) in
      let R : List PlainNode = filter (passes_in forest p) below in
      ap (λ (ls : List Location). map (placed number path) (filter F ls)) (all_are u)
      ∙ ap (λ (ls : List Location). map (placed number path) (cond (p u) (along [] ∷ ls) ls))
      (filter-append F (attribute_locations 0 (own_attributes u)) L ∙ ap (λ (ls : List Location). ls ++ filter F L) (no_attribute F (λ i. refl) 0 (own_attributes u)))
      ∙ map_front (placed number path) (p u) (along []) (filter F L)
      ∙ ap (λ (ns : List PlainNode). cond (p u) (placed number path (along []) ∷ ns) ns) rest
      ∙ ap (λ (q : List ℕ). cond (p u) (node_of_tree number (along q) ∷ R) R) (append_none path)
      ∙ ap (λ (b : Bool). cond b (node_of_tree number (along path) ∷ R) R) (there_passes u path e)

  mutual
    tree_passes : (u : PlainTree) (path : List ℕ) → tree_at root path ≡ Some u
        → map (placed number path) (filter (passes_plain p u) (all_locations u)) ≡ filter (passes_in forest p) (node_of_tree number (along path) ∷ places_below number path u)
    tree_passes (document ts) path e = with_root (document ts) path (places_below number path (document ts)) e (trees_pass (document ts) path 0 ts (passes_plain p (document ts)) e (λ j to. refl) (from_first (list_of ts) (list_of ts) refl))
    tree_passes (element name kind l ts) path e =
        with_root (element name kind l ts) path (places_below number path (element name kind l ts)) e (trees_pass (element name kind l ts) path 0 ts (passes_plain p (element name kind l ts)) e (λ j to. refl) (from_first (list_of ts) (list_of ts) refl))
    tree_passes (attribute a) path e = with_root (attribute a) path [] e refl
    tree_passes (text x) path e = with_root (text x) path [] e refl

    trees_pass : (u : PlainTree) (path : List ℕ) (k : ℕ) (ts : PlainTrees) (f : Location → Bool) → tree_at root path ≡ Some u
        → ((j : ℕ) (to : Location) → f (in_child j to) ≡ passes_plain p u (in_child j to))
        → ((i : ℕ) → slice_get (children_of u) (k + i) ≡ slice_get (list_of ts) i)
        → map (placed number path) (filter f (listed k (list_of ts))) ≡ filter (passes_in forest p) (places_of_all number path k ts)
    trees_pass u path k no_trees f e s h = refl
    trees_pass u path k (a_tree t ts) f e s h =
        let q : List ℕ = path ++ k ∷ [] in
        let A : List Location = all_locations t in
        let L : List Location = listed (suc k) (list_of ts) in
        let B : List PlainNode = node_of_tree number (along q) ∷ places_below number q t in
        let here : slice_get (children_of u) k ≡ Some t = first_of (children_of u) k t (h 0) in
        let same : (to : Location) → f (in_child k to) ≡ passes_plain p t to =
        λ to. s k to ∙ ap (λ (o : Option PlainTree). is_none to.attribute && passes_there p (then_found (then_found o (λ c. tree_at c to.path)) (attribute_at to.attribute))) here in
        ap (map (placed number path)) (filter-append f (map (in_child k) A) L)
        ∙ map_appended (placed number path) (filter f (map (in_child k) A)) (filter f L)
        ∙ ap (λ (ns : List PlainNode). ns ++ map (placed number path) (filter f L))
        (ap (map (placed number path)) (filter_mapped f (in_child k) A ∙ ap (map (in_child k)) (filter_agree (λ to. f (in_child k to)) (passes_plain p t) same A))
        ∙ map_after (placed number path) (in_child k) (filter (passes_plain p t) A)
        ∙ map_agrees (λ to. placed number path (in_child k to)) (placed number q)
        (λ to. ap (λ (way : List ℕ). record { tree = number; path = way; attribute = to.attribute }) (sym (append_assoc path (k ∷ []) to.path))) (filter (passes_plain p t) A)
        ∙ tree_passes t q (child_found root u t path k e here))
        ∙ ap (λ (ns : List PlainNode). filter (passes_in forest p) B ++ ns) (trees_pass u path (suc k) ts f e s (next_of (children_of u) (list_of ts) k t h))
        ∙ sym (filter-append (passes_in forest p) B (places_of_all number path (suc k) ts))

  -- the descendants alone
  below_passes : (u : PlainTree) (path : List ℕ) → tree_at root path ≡ Some u
      → map (placed number path) (locations_on (leads_down to_descendant []) p u) ≡ filter (passes_in forest p) (places_below number path u)
  below_passes u path e =
      let F : Location → Bool = λ to. leads_down to_descendant [] to && passes_there p (located u to) in
      let L : List Location = listed 0 (children_of u) in
      ap (λ (ls : List Location). map (placed number path) (filter F ls)) (all_are u)
      ∙ ap (map (placed number path)) (filter-append F (attribute_locations 0 (own_attributes u)) L ∙ ap (λ (ls : List Location). ls ++ filter F L) (no_attribute F (λ i. refl) 0 (own_attributes u)))
      ∙ ap (λ (us : List PlainTree). map (placed number path) (filter F (listed 0 us))) (sym (inner_are u))
      ∙ trees_pass u path 0 (inner_trees u) F e (λ j to. refl) (from_first (children_of u) (list_of (inner_trees u)) (sym (inner_are u)))
      ∙ ap (filter (passes_in forest p)) (inner_places u)
    where
      inner_places : (v : PlainTree) → places_of_all number path 0 (inner_trees v) ≡ places_below number path v
      inner_places (document ts) = refl
      inner_places (element name kind l ts) = refl
      inner_places (attribute a) = refl
      inner_places (text x) = refl

placed_under : (number : ℕ) (path : List ℕ) (ls : List Location) → map (node_of_tree number) (map (under path) ls) ≡ map (placed number path) ls
placed_under number path ls = map_after (node_of_tree number) (under path) ls

-- an attribute has no descendants
none_below : (number : ℕ) (path : List ℕ) (i : ℕ) (found : Option PlainTree) → places_where_found (then_found found (attribute_at (Some i))) (places_below number path) ≡ []
none_below number path i None = refl
none_below number path i (Some u) = of_attribute (slice_get (own_attributes u) i)
  where
    of_attribute : (a : Option Attribute) → places_where_found (option_map attribute a) (places_below number path) ≡ []
    of_attribute None = refl
    of_attribute (Some a) = refl

descendants_at : (forest : Forest) (p : PlainTree → Bool) (root : PlainTree) (number : ℕ) (path : List ℕ) (own : Option ℕ) → slice_get forest number ≡ Some root
    → filter (passes_in forest p) (places_where_found (then_found (tree_at root path) (attribute_at own)) (places_below number path))
    ≡ map (node_of_tree number) (locations_on (leads_to axes.Descendant (record { path = path; attribute = own })) p root)
descendants_at forest p root number path None g = by_found (tree_at root path) refl ∙ sym (ap (map (node_of_tree number)) (down_is_local to_descendant p path root))
  where
    by_found : (found : Option PlainTree) → tree_at root path ≡ found
        → filter (passes_in forest p) (places_where_found (then_found (tree_at root path) (attribute_at None)) (places_below number path))
        ≡ map (node_of_tree number) (under_found path (tree_at root path) (locations_on (leads_down to_descendant []) p))
    by_found None e =
        ap (λ (o : Option PlainTree). filter (passes_in forest p) (places_where_found (then_found o (attribute_at None)) (places_below number path))) e
        ∙ sym (ap (λ (o : Option PlainTree). map (node_of_tree number) (under_found path o (locations_on (leads_down to_descendant []) p))) e)
    by_found (Some u) e =
        ap (λ (o : Option PlainTree). filter (passes_in forest p) (places_where_found (then_found o (attribute_at None)) (places_below number path))) e
        ∙ sym (below_passes forest p root number g u path e)
        ∙ sym (placed_under number path (locations_on (leads_down to_descendant []) p u))
        ∙ sym (ap (λ (o : Option PlainTree). map (node_of_tree number) (under_found path o (locations_on (leads_down to_descendant []) p))) e)
descendants_at forest p root number path (Some i) g =
    ap (filter (passes_in forest p)) (none_below number path i (tree_at root path))
    ∙ sym (ap (map (node_of_tree number)) (nothing_passes (λ to. leads_to axes.Descendant (record { path = path; attribute = Some i }) to && passes_there p (located root to)) (λ to. refl) (all_locations root)))

pub descendants_on_axis : (forest : Forest) (from : PlainNode) (p : PlainTree → Bool)
    → filter (passes_in forest p) (descendants_in forest from) ≡ nodes_in_tree (slice_get forest from.tree) from.tree (locations_on (leads_to axes.Descendant (location_of from)) p)
descendants_on_axis forest from p =
    tie forest from (leads_to axes.Descendant (location_of from)) p (descendants_in forest from)
    (has_in forest from p (places_below from.tree from.path) None)
    (λ root g. has_in forest from p (places_below from.tree from.path) (Some root) g ∙ descendants_at forest p root from.tree from.path from.attribute g)

-- a node and its descendants

self_or_below : (way : List ℕ) (a : Option ℕ) → (to_self None way a || to_descendant way a) ≡ is_none a
self_or_below [] None = refl
self_or_below [] (Some i) = refl
self_or_below (n ∷ way) a = refl

on_either : (way : Option (List ℕ)) (a : Option ℕ) → (on_way (λ w. to_self None w a) way || on_way (λ w. to_descendant w a) way) ≡ on_way (λ w. is_none a) way
on_either None a = refl
on_either (Some way) a = self_or_below way a

or_false : (b : Bool) → (b || false) ≡ b
or_false true = refl
or_false false = refl

abbrev plainly : List ℕ → Option ℕ → Bool
plainly way a = is_none a

with_descendants_at : (forest : Forest) (p : PlainTree → Bool) (root : PlainTree) (number : ℕ) (path : List ℕ) (own : Option ℕ) → slice_get forest number ≡ Some root
    → filter (passes_in forest p) (node_of_tree number (record { path = path; attribute = own }) ∷ places_where_found (then_found (tree_at root path) (attribute_at own)) (places_below number path))
    ≡ map (node_of_tree number) (locations_on (leads_to axes.DescendantOrSelf (record { path = path; attribute = own })) p root)
with_descendants_at forest p root number path None g =
    by_found (tree_at root path) refl
    ∙ sym (ap (map (node_of_tree number)) (
    filter_agree (λ to. leads_to axes.DescendantOrSelf (along path) to && passes_there p (located root to)) (λ to. leads_down plainly path to && passes_there p (located root to))
    (λ to. ap (λ (b : Bool). b && passes_there p (located root to)) (on_either (way_down path to.path) to.attribute)) (all_locations root)
    ∙ down_is_local plainly p path root
    ))
  where
    by_found : (found : Option PlainTree) → tree_at root path ≡ found
        → filter (passes_in forest p) (node_of_tree number (along path) ∷ places_where_found (then_found (tree_at root path) (attribute_at None)) (places_below number path))
        ≡ map (node_of_tree number) (under_found path (tree_at root path) (locations_on (leads_down plainly []) p))
    by_found None e =
        ap (λ (o : Option PlainTree). filter (passes_in forest p) (node_of_tree number (along path) ∷ places_where_found (then_found o (attribute_at None)) (places_below number path))) e
        ∙ one_passes forest p root number (along path) g
        ∙ ap (λ (o : Option PlainTree). map (node_of_tree number) (kept_if (passes_there p (then_found o (attribute_at None))) (along path))) e
        ∙ sym (ap (λ (o : Option PlainTree). map (node_of_tree number) (under_found path o (locations_on (leads_down plainly []) p))) e)
    by_found (Some u) e =
        ap (λ (o : Option PlainTree). filter (passes_in forest p) (node_of_tree number (along path) ∷ places_where_found (then_found o (attribute_at None)) (places_below number path))) e
        ∙ sym (tree_passes forest p root number g u path e)
        ∙ sym (placed_under number path (locations_on (leads_down plainly []) p u))
        ∙ sym (ap (λ (o : Option PlainTree). map (node_of_tree number) (under_found path o (locations_on (leads_down plainly []) p))) e)
with_descendants_at forest p root number path (Some i) g =
    let loc : Location = attribute_along path i in
    ap (λ (ns : List PlainNode). filter (passes_in forest p) (node_of_tree number loc ∷ ns)) (none_below number path i (tree_at root path))
    ∙ one_passes forest p root number loc g
    ∙ ap (map (node_of_tree number)) (
    self_is_found p loc root
    ∙ sym (filter_agree (λ to. leads_to axes.DescendantOrSelf loc to && passes_there p (located root to)) (λ to. leads_to axes.SelfAxis loc to && passes_there p (located root to))
    (λ to. ap (λ (b : Bool). b && passes_there p (located root to)) (or_false (leads_to axes.SelfAxis loc to))) (all_locations root))
    )

pub with_descendants_on_axis : (forest : Forest) (from : PlainNode) (p : PlainTree → Bool)
    → filter (passes_in forest p) (from ∷ descendants_in forest from) ≡ nodes_in_tree (slice_get forest from.tree) from.tree (locations_on (leads_to axes.DescendantOrSelf (location_of from)) p)
with_descendants_on_axis forest from p =
    tie forest from (leads_to axes.DescendantOrSelf (location_of from)) p (from ∷ descendants_in forest from)
    (λ e.
    ap (λ (o : Option PlainTree). filter (passes_in forest p) (from ∷ places_where_found (placed_in o from) (places_below from.tree from.path))) e ∙ gone_passes forest p from e)
    (λ root g.
    ap (λ (o : Option PlainTree). filter (passes_in forest p) (from ∷ places_where_found (placed_in o from) (places_below from.tree from.path))) g
    ∙ with_descendants_at forest p root from.tree from.path from.attribute g)
