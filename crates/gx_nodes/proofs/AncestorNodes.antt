-- The nodes above a node are its parent and those above that; the axes that lead up find them.
use Rattle.std.proofs.Common.{◌≡◌, ℕ, zero, suc, ◌+◌, ◌<◌, Bool, true, false, ◌&&◌, ◌||◌, List, [], ◌∷◌, ◌++◌, map, filter, Option, None, Some, cond, refl, sym, ap, ◌∙◌, arith, subst, if◌then◌else◌, nat_eq}
use Rattle.std.specs.Prelude.{is_some}
use Rattle.std.specs.List.{slice_get}
use Rattle.std.specs.Option.{option_map, is_none}
use Rattle.std.proofs.lemmas.List.Elements.{filter-append, filter_agree}
use Rattle.gx_types.specs.declared.step.Axis.TheVariants as axes
use Rattle.gx_tree.specs.declared.attribute.Attribute.{Attribute}
use Rattle.gx_tree.specs.PlainTree.{PlainTree, attribute}
use Rattle.gx_model.specs.Forest.{Forest, PlainNode, then_found, children_of, own_attributes, tree_at, attribute_at, node_in}
use Rattle.gx_model.specs.Location.{Location, along, in_child, root_attribute, attribute_locations, all_locations, located, location_of, node_of_tree}
use Rattle.gx_model.specs.Axes.{leads_to, leads_down, leads_up, to_self, some_steps, way_down, on_way, locations_on, nodes_in_tree, passes_there}
use Rattle.gx_model.specs.Stepping.{kept_if, behind_step, path_up, parent_path}
use Rattle.gx_model.proofs.ListLemmas.{nothing_passes, append_none, map_appended, filter_mapped}
use Rattle.gx_model.proofs.LocationLemmas.{under, listed, all_are, no_attribute, nothing_behind, in_that_child, only_child, only_root, nat_is_itself, nat_differs}
use Rattle.gx_nodes.specs.Near.{place_up, places_where_found, parent_in, locations_down, own_element, locations_above, ancestors_in, passes_in}
use Rattle.gx_nodes.proofs.FoundLemmas.{tree_behind}
use Rattle.gx_nodes.proofs.AxisNodes.{in_tree}

-- a relation of the path of a node and a location, which holds on the way down to the node and of the last locations
record LeadsUp (p : PlainTree → Bool) (f : List ℕ → Location → Bool) (last : List Location) : Type 0 where
  pub at_end : (t : PlainTree) → filter (λ to. f [] to && passes_there p (located t to)) (all_locations t) ≡ filter (λ to. passes_there p (located t to)) last
  pub at_root : (n : ℕ) (path : List ℕ) → f (n ∷ path) (along []) ≡ true
  pub at_attribute : (n : ℕ) (path : List ℕ) (i : ℕ) → f (n ∷ path) (root_attribute i) ≡ false
  pub in_that : (n : ℕ) (path : List ℕ) (to : Location) → f (n ∷ path) (in_child n to) ≡ f path to
  pub in_other : (n j : ℕ) (path : List ℕ) (to : Location) → (j ≡ n → ⊥) → f (n ∷ path) (in_child j to) ≡ false

module _ (p : PlainTree → Bool) (f : List ℕ → Location → Bool) (last : List Location) (w : LeadsUp p f last) where
  abbrev found_by : (PlainTree) → Location → Bool
  found_by t to = passes_there p (located t to)

  in_child_up : (n : ℕ) (path : List ℕ) (t : PlainTree) → ((c : PlainTree) → locations_on (f path) p c ≡ filter (found_by c) (locations_down last path))
      → (found : Option PlainTree) → slice_get (children_of t) n ≡ found
      → in_that_child (λ to. f (n ∷ path) to && found_by t to) n found ≡ filter (found_by t) (map (in_child n) (locations_down last path))
  in_child_up n path t up None e =
      sym (filter_mapped (found_by t) (in_child n) (locations_down last path)
      ∙ ap (map (in_child n)) (nothing_passes (λ to. found_by t (in_child n to))
      (λ to. ap (λ (o : Option PlainTree). passes_there p (then_found (then_found o (λ c. tree_at c to.path)) (attribute_at to.attribute))) e) (locations_down last path)))
  in_child_up n path t up (Some c) e =
      let below : (to : Location) → found_by t (in_child n to) ≡ found_by c to =
      λ to. ap (λ (o : Option PlainTree). passes_there p (then_found (then_found o (λ c. tree_at c to.path)) (attribute_at to.attribute))) e in
      ap (map (in_child n))
      (filter_agree (λ to. f (n ∷ path) (in_child n to) && found_by t (in_child n to)) (λ to. f path to && found_by c to)
      (λ to. ap (λ (b : Bool). b && found_by t (in_child n to)) (w.in_that n path to) ∙ ap (λ (b : Bool). f path to && b) (below to)) (all_locations c)
      ∙ up c
      ∙ filter_agree (found_by c) (λ to. found_by t (in_child n to)) (λ to. sym (below to)) (locations_down last path))
      ∙ sym (filter_mapped (found_by t) (in_child n) (locations_down last path))

  on_way_up : (path : List ℕ) (t : PlainTree) → locations_on (f path) p t ≡ filter (found_by t) (locations_down last path)
  on_way_up [] t = w.at_end t
  on_way_up (n ∷ path) t =
      let F : Location → Bool = λ to. f (n ∷ path) to && found_by t to in
      let A : List Location = attribute_locations 0 (own_attributes t) in
      let L : List Location = listed 0 (children_of t) in
      ap (filter F) (all_are t)
      ∙ ap (λ (b : Bool). cond (b && p t) (along [] ∷ filter F (A ++ L)) (filter F (A ++ L))) (w.at_root n path)
      ∙ ap (λ (ls : List Location). cond (p t) (along [] ∷ ls) ls)
      (filter-append F A L
      ∙ ap (λ (ls : List Location). ls ++ filter F L) (no_attribute F (λ i. ap (λ (b : Bool). b && found_by t (root_attribute i)) (w.at_attribute n path i)) 0 (own_attributes t))
      ∙ only_child F (children_of t) 0 n n (omega arith) (λ j to other. ap (λ (b : Bool). b && found_by t (in_child j to)) (w.in_other n j path to other))
      ∙ in_child_up n path t (λ c. on_way_up path c) (slice_get (children_of t) n) refl)

-- the ways of the axes

not_both : (b : Bool) → (b && false) ≡ false
not_both true = refl
not_both false = refl

or_true : (b : Bool) → (b || true) ≡ true
or_true true = refl
or_true false = refl

abbrev up_with : (List ℕ → Bool) → List ℕ → Location → Bool
up_with test path to = leads_up test path to

up_other : (test : List ℕ → Bool) (n j : ℕ) (path : List ℕ) (to : Location) → (j ≡ n → ⊥) → up_with test (n ∷ path) (in_child j to) ≡ false
up_other test n j path to other =
    ap (λ (b : Bool). is_none to.attribute && on_way test (if b then way_down to.path path else None)) (nat_differs j n other) ∙ not_both (is_none to.attribute)

up_that : (test : List ℕ → Bool) (n : ℕ) (path : List ℕ) (to : Location) → up_with test (n ∷ path) (in_child n to) ≡ up_with test path to
up_that test n path to = ap (λ (b : Bool). is_none to.attribute && on_way test (if b then way_down to.path path else None)) (nat_is_itself n)

self_other : (own : Option ℕ) (n j : ℕ) (path : List ℕ) (to : Location) → (j ≡ n → ⊥) → leads_down (to_self own) (n ∷ path) (in_child j to) ≡ false
self_other own n j path to other = ap (λ (b : Bool). on_way (λ way. to_self own way to.attribute) (if b then way_down path to.path else None)) (nat_differs n j (λ e. other (sym e)))

self_that : (own : Option ℕ) (n : ℕ) (path : List ℕ) (to : Location) → leads_down (to_self own) (n ∷ path) (in_child n to) ≡ leads_down (to_self own) path to
self_that own n path to = ap (λ (b : Bool). on_way (λ way. to_self own way to.attribute) (if b then way_down path to.path else None)) (nat_is_itself n)

abbrev above_test : Option ℕ → List ℕ → Bool
above_test own way = is_some own || some_steps way

nothing_up : (q : List ℕ) → on_way some_steps (way_down q []) ≡ false
nothing_up [] = refl
nothing_up (n ∷ q) = refl

above_none : (p : PlainTree → Bool) → LeadsUp p (up_with (above_test None)) []
above_none p = record {
  at_end = λ t.
      nothing_passes (λ to. up_with (above_test None) [] to && passes_there p (located t to))
      (λ to. ap (λ (b : Bool). (is_none to.attribute && b) && passes_there p (located t to)) (nothing_up to.path) ∙ ap (λ (b : Bool). b && passes_there p (located t to)) (not_both (is_none to.attribute)))
      (all_locations t);
  at_root = λ n path. refl;
  at_attribute = λ n path i. refl;
  in_that = up_that (above_test None);
  in_other = up_other (above_test None);
}

kept_alone : (b : Bool) (x : Location) → kept_if b x ≡ cond b (x ∷ []) []
kept_alone true x = refl
kept_alone false x = refl

above_attribute : (p : PlainTree → Bool) (own : ℕ) → LeadsUp p (up_with (above_test (Some own))) (along [] ∷ [])
above_attribute p own = record {
  at_end = λ t.
      only_root (λ to. up_with (above_test (Some own)) [] to && passes_there p (located t to)) t (λ i. refl)
      (λ j to. ap (λ (b : Bool). b && passes_there p (located t (in_child j to))) (not_both (is_none to.attribute)))
      ∙ kept_alone (p t) (along []);
  at_root = λ n path. refl;
  at_attribute = λ n path i. refl;
  in_that = up_that (above_test (Some own));
  in_other = up_other (above_test (Some own));
}

abbrev with_self : Option ℕ → List ℕ → Location → Bool
with_self own path to = leads_down (to_self own) path to || up_with (above_test own) path to

with_self_root : (own : Option ℕ) (n : ℕ) (path : List ℕ) → with_self own (n ∷ path) (along []) ≡ true
with_self_root None n path = refl
with_self_root (Some i) n path = refl

with_self_that : (own : Option ℕ) (n : ℕ) (path : List ℕ) (to : Location) → with_self own (n ∷ path) (in_child n to) ≡ with_self own path to
with_self_that own n path to =
    ap (λ (b : Bool). b || up_with (above_test own) (n ∷ path) (in_child n to)) (self_that own n path to) ∙ ap (λ (b : Bool). leads_down (to_self own) path to || b) (up_that (above_test own) n path to)

with_self_other : (own : Option ℕ) (n j : ℕ) (path : List ℕ) (to : Location) → (j ≡ n → ⊥) → with_self own (n ∷ path) (in_child j to) ≡ false
with_self_other own n j path to other =
    ap (λ (b : Bool). b || up_with (above_test own) (n ∷ path) (in_child j to)) (self_other own n j path to other) ∙ up_other (above_test own) n j path to other

self_none : (p : PlainTree → Bool) → LeadsUp p (with_self None) (along [] ∷ [])
self_none p = record {
  at_end = λ t.
      only_root (λ to. with_self None [] to && passes_there p (located t to)) t (λ i. refl)
      (λ j to. ap (λ (b : Bool). b && passes_there p (located t (in_child j to))) (not_both (is_none to.attribute)))
      ∙ kept_alone (p t) (along []);
  at_root = with_self_root None;
  at_attribute = λ n path i. refl;
  in_that = with_self_that None;
  in_other = with_self_other None;
}

-- of all attributes the one at a position
module _ (p : PlainTree → Bool) (t : PlainTree) (own : ℕ) where
  abbrev self_there : Location → Bool
  self_there to = with_self (Some own) [] to && passes_there p (located t to)

  at_position : (k : ℕ) → self_there (root_attribute k) ≡ (nat_eq own k && passes_there p (option_map attribute (slice_get (own_attributes t) k)))
  at_position k = ap (λ (b : Bool). b && passes_there p (option_map attribute (slice_get (own_attributes t) k))) (or_false (nat_eq own k))
    where
      or_false : (b : Bool) → (b || false) ≡ b
      or_false true = refl
      or_false false = refl

  no_later : (k : ℕ) (l : List Attribute) → own < k → filter self_there (attribute_locations k l) ≡ []
  no_later k [] h = refl
  no_later k (a ∷ l) h =
      ap (λ (b : Bool). cond b (root_attribute k ∷ filter self_there (attribute_locations (suc k) l)) (filter self_there (attribute_locations (suc k) l)))
      (at_position k ∙ ap (λ (b : Bool). b && passes_there p (option_map attribute (slice_get (own_attributes t) k))) (nat_differs own k (λ e. absurd (omega (arith, e, h)))))
      ∙ no_later (suc k) l (omega (arith, h))

  that_attribute : (k : ℕ) (l : List Attribute) (n : ℕ) → own ≡ k + n → ((i : ℕ) → slice_get (own_attributes t) (k + i) ≡ slice_get l i)
      → filter self_there (attribute_locations k l) ≡ kept_if (passes_there p (option_map attribute (slice_get l n))) (root_attribute own)
  that_attribute k [] n e h = refl
  that_attribute k (a ∷ l) zero e h =
      let same : k ≡ own = omega (arith, e) in
      let here : slice_get (own_attributes t) own ≡ Some a = subst (λ (j : ℕ). slice_get (own_attributes t) j ≡ Some a) (omega (arith, e)) (h 0) in
      ap (λ (j : ℕ). filter self_there (attribute_locations j (a ∷ l))) same
      ∙ ap (λ (b : Bool). cond b (root_attribute own ∷ filter self_there (attribute_locations (suc own) l)) (filter self_there (attribute_locations (suc own) l))) (at_position own)
      ∙ ap (λ (ls : List Location). cond (nat_eq own own && passes_there p (option_map attribute (slice_get (own_attributes t) own))) (root_attribute own ∷ ls) ls) (no_later (suc own) l (omega arith))
      ∙ ap (λ (b : Bool). cond (b && passes_there p (option_map attribute (slice_get (own_attributes t) own))) (root_attribute own ∷ []) []) (nat_is_itself own)
      ∙ ap (λ (o : Option Attribute). cond (passes_there p (option_map attribute o)) (root_attribute own ∷ []) []) here
      ∙ sym (kept_alone (p (attribute a)) (root_attribute own))
  that_attribute k (a ∷ l) (suc n) e h =
      ap (λ (b : Bool). cond b (root_attribute k ∷ filter self_there (attribute_locations (suc k) l)) (filter self_there (attribute_locations (suc k) l)))
      (at_position k ∙ ap (λ (b : Bool). b && passes_there p (option_map attribute (slice_get (own_attributes t) k))) (nat_differs own k (λ s. absurd (omega (arith, e, s)))))
      ∙ that_attribute (suc k) l n (omega (arith, e)) (λ i. subst (λ (j : ℕ). slice_get (own_attributes t) j ≡ slice_get l i) (omega arith) (h (suc i)))

  pub with_attribute : filter self_there (all_locations t) ≡ filter (λ to. passes_there p (located t to)) (along [] ∷ root_attribute own ∷ [])
  with_attribute =
      let A : List Location = attribute_locations 0 (own_attributes t) in
      let L : List Location = listed 0 (children_of t) in
      let here : PlainTree → Option PlainTree = λ u. option_map attribute (slice_get (own_attributes u) own) in
      ap (filter self_there) (all_are t)
      ∙ ap (λ (ls : List Location). cond (p t) (along [] ∷ ls) ls)
      (filter-append self_there A L
      ∙ ap (λ (ls : List Location). filter self_there A ++ ls) (nothing_behind self_there 0 (children_of t) (λ j to below. ap (λ (b : Bool). b && passes_there p (located t (in_child j to))) (not_both (is_none to.attribute))))
      ∙ append_none (filter self_there A)
      ∙ that_attribute 0 (own_attributes t) own (omega arith) (λ i. let same : 0 + i ≡ i = omega arith in ap (slice_get (own_attributes t)) same)
      ∙ kept_alone (passes_there p (here t)) (root_attribute own))

self_attribute : (p : PlainTree → Bool) (own : ℕ) → LeadsUp p (with_self (Some own)) (along [] ∷ root_attribute own ∷ [])
self_attribute p own = record {
  at_end = λ t. with_attribute p t own;
  at_root = with_self_root (Some own);
  at_attribute = λ n path i. refl;
  in_that = with_self_that (Some own);
  in_other = with_self_other (Some own);
}

above_found : (p : PlainTree → Bool) (path : List ℕ) (own : Option ℕ) (t : PlainTree)
    → locations_on (leads_to axes.Ancestor (record { path = path; attribute = own })) p t ≡ filter (λ to. passes_there p (located t to)) (locations_down (own_element own) path)
above_found p path None t = on_way_up p (up_with (above_test None)) [] (above_none p) path t
above_found p path (Some i) t = on_way_up p (up_with (above_test (Some i))) (along [] ∷ []) (above_attribute p i) path t

self_and_above_found : (p : PlainTree → Bool) (path : List ℕ) (own : Option ℕ) (t : PlainTree)
    → locations_on (leads_to axes.AncestorOrSelf (record { path = path; attribute = own })) p t
    ≡ filter (λ to. passes_there p (located t to)) (locations_down (own_element own ++ record { path = []; attribute = own } ∷ []) path)
self_and_above_found p path None t = on_way_up p (with_self None) (along [] ∷ []) (self_none p) path t
self_and_above_found p path (Some i) t = on_way_up p (with_self (Some i)) (along [] ∷ root_attribute i ∷ []) (self_attribute p i) path t

down_more : (xs : List Location) (x : Location) (path : List ℕ) → locations_down (xs ++ x ∷ []) path ≡ locations_down xs path ++ under path x ∷ []
down_more xs x [] = refl
down_more xs x (n ∷ path) =
    ap (λ (ls : List Location). along [] ∷ map (in_child n) ls) (down_more xs x path) ∙ ap (λ (ls : List Location). along [] ∷ ls) (map_appended (in_child n) (locations_down xs path) (under path x ∷ []))

-- as nodes

nodes_pass : (forest : Forest) (p : PlainTree → Bool) (root : PlainTree) (number : ℕ) (ls : List Location) → slice_get forest number ≡ Some root
    → filter (passes_in forest p) (map (node_of_tree number) ls) ≡ map (node_of_tree number) (filter (λ to. passes_there p (located root to)) ls)
nodes_pass forest p root number ls g =
    filter_mapped (passes_in forest p) (node_of_tree number) ls
    ∙ ap (map (node_of_tree number)) (filter_agree (λ to. passes_in forest p (node_of_tree number to)) (λ to. passes_there p (located root to)) (λ to. ap (passes_there p) (in_tree forest number to (Some root) g)) ls)

found_tree : (forest : Forest) (from : PlainNode) (t : PlainTree) → node_in forest from ≡ Some t → (root : PlainTree) × (slice_get forest from.tree ≡ Some root)
found_tree forest from t h = by_tree (slice_get forest from.tree) refl
  where
    by_tree : (found : Option PlainTree) → slice_get forest from.tree ≡ found → (root : PlainTree) × (slice_get forest from.tree ≡ Some root)
    by_tree None e = let never : None ≡ Some t = sym (in_tree forest from.tree (location_of from) None e) ∙ h in absurd (cc)
    by_tree (Some root) e = (root, e)

above_are : (forest : Forest) (from : PlainNode) (t : PlainTree) → node_in forest from ≡ Some t → ancestors_in forest from ≡ map (node_of_tree from.tree) (locations_above (location_of from))
above_are forest from t h = ap (λ (o : Option PlainTree). places_where_found o (λ u. map (node_of_tree from.tree) (locations_above (location_of from)))) h

pub ancestors_on_axis : (forest : Forest) (from : PlainNode) (p : PlainTree → Bool) (t : PlainTree) → node_in forest from ≡ Some t
    → filter (passes_in forest p) (ancestors_in forest from) ≡ nodes_in_tree (slice_get forest from.tree) from.tree (locations_on (leads_to axes.Ancestor (location_of from)) p)
ancestors_on_axis forest from p t h =
    let r = found_tree forest from t h in
    ap (filter (passes_in forest p)) (above_are forest from t h)
    ∙ nodes_pass forest p r.0 from.tree (locations_above (location_of from)) r.1
    ∙ ap (map (node_of_tree from.tree)) (sym (above_found p from.path from.attribute r.0))
    ∙ sym (ap (λ (o : Option PlainTree). nodes_in_tree o from.tree (locations_on (leads_to axes.Ancestor (location_of from)) p)) r.1)

pub with_ancestors_on_axis : (forest : Forest) (from : PlainNode) (p : PlainTree → Bool) (t : PlainTree) → node_in forest from ≡ Some t
    → filter (passes_in forest p) (ancestors_in forest from ++ from ∷ []) ≡ nodes_in_tree (slice_get forest from.tree) from.tree (locations_on (leads_to axes.AncestorOrSelf (location_of from)) p)
with_ancestors_on_axis forest from p t h =
    let r = found_tree forest from t h in
    let own : Location = record { path = []; attribute = from.attribute } in
    let D : List Location = locations_above (location_of from) in
    let whole : locations_down (own_element from.attribute ++ own ∷ []) from.path ≡ D ++ location_of from ∷ [] =
    down_more (own_element from.attribute) own from.path ∙ ap (λ (q : List ℕ). D ++ record { path = q; attribute = from.attribute } ∷ []) (append_none from.path) in
    ap (λ (ns : List PlainNode). filter (passes_in forest p) (ns ++ from ∷ [])) (above_are forest from t h)
    ∙ ap (filter (passes_in forest p)) (sym (map_appended (node_of_tree from.tree) D (location_of from ∷ [])))
    ∙ nodes_pass forest p r.0 from.tree (D ++ location_of from ∷ []) r.1
    ∙ ap (λ (ls : List Location). map (node_of_tree from.tree) (filter (λ to. passes_there p (located r.0 to)) ls)) (sym whole)
    ∙ ap (map (node_of_tree from.tree)) (sym (self_and_above_found p from.path from.attribute r.0))
    ∙ sym (ap (λ (o : Option PlainTree). nodes_in_tree o from.tree (locations_on (leads_to axes.AncestorOrSelf (location_of from)) p)) r.1)

-- from a node up to its parent

up_from : (path q : List ℕ) → path_up path ≡ Some q → locations_down [] path ≡ locations_down [] q ++ along q ∷ []
up_from [] q e = absurd (cc)
up_from (n ∷ []) q e = let same : [] ≡ q = cc in ap (λ (r : List ℕ). locations_down [] r ++ along r ∷ []) same
up_from (m ∷ n ∷ path) q e = by_front (path_up (n ∷ path)) refl (up_from (n ∷ path))
  where
    by_front : (up : Option (List ℕ)) → path_up (n ∷ path) ≡ up → ((r : List ℕ) → path_up (n ∷ path) ≡ Some r → locations_down [] (n ∷ path) ≡ locations_down [] r ++ along r ∷ [])
        → locations_down [] (m ∷ n ∷ path) ≡ locations_down [] q ++ along q ∷ []
    by_front None f below = let never : None ≡ Some q = sym (ap (behind_step m) f) ∙ e in absurd (cc)
    by_front (Some r) f below =
        let whole : Some (m ∷ r) ≡ Some q = sym (ap (behind_step m) f) ∙ e in
        let same : m ∷ r ≡ q = cc in
        ap (λ (ls : List Location). along [] ∷ map (in_child m) ls) (below r f)
        ∙ ap (λ (ls : List Location). along [] ∷ ls) (map_appended (in_child m) (locations_down [] r) (along r ∷ []))
        ∙ ap (λ (s : List ℕ). locations_down [] s ++ along s ∷ []) same

last_step : (path q : List ℕ) → path_up path ≡ Some q → (k : ℕ) × (path ≡ q ++ k ∷ [])
last_step [] q e = absurd (cc)
last_step (n ∷ []) q e = let same : [] ≡ q = cc in (n, ap (λ (r : List ℕ). r ++ n ∷ []) same)
last_step (m ∷ n ∷ path) q e = by_front (path_up (n ∷ path)) refl (last_step (n ∷ path))
  where
    by_front : (up : Option (List ℕ)) → path_up (n ∷ path) ≡ up → ((r : List ℕ) → path_up (n ∷ path) ≡ Some r → (k : ℕ) × (n ∷ path ≡ r ++ k ∷ [])) → (k : ℕ) × (m ∷ n ∷ path ≡ q ++ k ∷ [])
    by_front None f below = let never : None ≡ Some q = sym (ap (behind_step m) f) ∙ e in absurd (cc)
    by_front (Some r) f below =
        let whole : Some (m ∷ r) ≡ Some q = sym (ap (behind_step m) f) ∙ e in
        let same : m ∷ r ≡ q = cc in
        let rest = below r f in
        (rest.0, ap (λ (s : List ℕ). m ∷ s) rest.1 ∙ ap (λ (s : List ℕ). s ++ rest.0 ∷ []) same)

-- a path that is not empty has one above it
has_front : (n : ℕ) (path : List ℕ) → (front : List ℕ) × (path_up (n ∷ path) ≡ Some front)
has_front n [] = ([], refl)
has_front m (n ∷ path) = let rest = has_front n path in (m ∷ rest.0, ap (behind_step m) rest.1)

always_up : (n : ℕ) (path : List ℕ) → path_up (n ∷ path) ≡ None → ⊥
always_up n path e = let front = has_front n path in let never : Some front.0 ≡ None = sym front.1 ∙ e in cc

tree_above : (root t : PlainTree) (path q : List ℕ) → path_up path ≡ Some q → tree_at root path ≡ Some t → (u : PlainTree) × (tree_at root q ≡ Some u)
tree_above root t path q e h = by_tree (tree_at root q) refl
  where
    by_tree : (found : Option PlainTree) → tree_at root q ≡ found → (u : PlainTree) × (tree_at root q ≡ Some u)
    by_tree None f =
        let l = last_step path q e in
        let never : None ≡ Some t = sym (ap (tree_at root) l.1 ∙ tree_behind root q (l.0 ∷ []) ∙ ap (λ (o : Option PlainTree). then_found o (λ c. tree_at c (l.0 ∷ []))) f) ∙ h in absurd (cc)
    by_tree (Some u) f = (u, f)

-- the parent of a location, and what is above the two
record HasAbove (root : PlainTree) (from : Location) (q : List ℕ) : Type 0 where
  pub tree : PlainTree
  pub there : tree_at root q ≡ Some tree
  pub more : locations_above from ≡ locations_above (along q) ++ along q ∷ []

has_above : (root t : PlainTree) (path : List ℕ) (own : Option ℕ) (q : List ℕ) → parent_path (record { path = path; attribute = own }) ≡ Some q → located root (record { path = path; attribute = own }) ≡ Some t
    → HasAbove root (record { path = path; attribute = own }) q
has_above root t path None q e h =
    let here : tree_at root path ≡ Some t = as_found (tree_at root path) h in
    let above = tree_above root t path q e here in
    record { tree = above.0; there = above.1; more = up_from path q e }
  where
    as_found : (o : Option PlainTree) → then_found o (attribute_at None) ≡ Some t → o ≡ Some t
    as_found None s = s
    as_found (Some u) s = s
has_above root t path (Some i) q e h =
    let same : path ≡ q = cc in
    let element = of_element (tree_at root path) refl h in
    record {
      tree = element.0;
      there = ap (tree_at root) (sym same) ∙ element.1;
      more = down_more [] (along []) path
          ∙ ap (λ (s : List ℕ). locations_down [] path ++ along s ∷ []) (append_none path)
          ∙ ap (λ (s : List ℕ). locations_down [] s ++ along s ∷ []) same;
    }
  where
    of_element : (o : Option PlainTree) → tree_at root path ≡ o → then_found (tree_at root path) (attribute_at (Some i)) ≡ Some t → (u : PlainTree) × (tree_at root path ≡ Some u)
    of_element None f s = let never : None ≡ Some t = sym (ap (λ (o : Option PlainTree). then_found o (attribute_at (Some i))) f) ∙ s in absurd (cc)
    of_element (Some u) f s = (u, f)

pub ancestors_more : (forest : Forest) (from parent : PlainNode) → parent_in forest from ≡ Some parent → ancestors_in forest from ≡ ancestors_in forest parent ++ parent ∷ []
ancestors_more forest from parent e = by_node (node_in forest from) refl
  where
    by_path : (t : PlainTree) → node_in forest from ≡ Some t → (up : Option (List ℕ)) → parent_path (location_of from) ≡ up → ancestors_in forest from ≡ ancestors_in forest parent ++ parent ∷ []
    by_path t h None f =
        let never : None ≡ Some parent =
        sym (ap (λ (o : Option PlainTree). then_found o (λ u. place_up from)) h ∙ ap (option_map (λ (path : List ℕ). node_of_tree from.tree (along path))) f) ∙ e in absurd (cc)
    by_path t h (Some q) f =
        let whole : Some (node_of_tree from.tree (along q)) ≡ Some parent =
        sym (ap (λ (o : Option PlainTree). then_found o (λ u. place_up from)) h ∙ ap (option_map (λ (path : List ℕ). node_of_tree from.tree (along path))) f) ∙ e in
        let same : node_of_tree from.tree (along q) ≡ parent = cc in
        let r = found_tree forest from t h in
        let a = has_above r.0 t from.path from.attribute q f (sym (in_tree forest from.tree (location_of from) (Some r.0) r.1) ∙ h) in
        let there : node_in forest (node_of_tree from.tree (along q)) ≡ Some a.tree =
        in_tree forest from.tree (along q) (Some r.0) r.1 ∙ ap (λ (o : Option PlainTree). then_found o (attribute_at None)) a.there in
        above_are forest from t h
        ∙ ap (map (node_of_tree from.tree)) a.more
        ∙ map_appended (node_of_tree from.tree) (locations_above (along q)) (along q ∷ [])
        ∙ ap (λ (ns : List PlainNode). ns ++ node_of_tree from.tree (along q) ∷ []) (sym (above_are forest (node_of_tree from.tree (along q)) a.tree there))
        ∙ ap (λ (n : PlainNode). ancestors_in forest n ++ n ∷ []) same

    by_node : (found : Option PlainTree) → node_in forest from ≡ found → ancestors_in forest from ≡ ancestors_in forest parent ++ parent ∷ []
    by_node None h = let never : None ≡ Some parent = sym (ap (λ (o : Option PlainTree). then_found o (λ u. place_up from)) h) ∙ e in absurd (cc)
    by_node (Some t) h = by_path t h (parent_path (location_of from)) refl

pub no_ancestors : (forest : Forest) (from : PlainNode) → parent_in forest from ≡ None → ancestors_in forest from ≡ []
no_ancestors forest from e = by_node (node_in forest from) refl
  where
    at_top : (path : List ℕ) (own : Option ℕ) → parent_path (record { path = path; attribute = own }) ≡ None → locations_above (record { path = path; attribute = own }) ≡ []
    at_top path (Some i) f = absurd (cc)
    at_top [] None f = refl
    at_top (n ∷ path) None f = absurd (always_up n path f)

    by_path : (t : PlainTree) → node_in forest from ≡ Some t → (up : Option (List ℕ)) → parent_path (location_of from) ≡ up → ancestors_in forest from ≡ []
    by_path t h None f = above_are forest from t h ∙ ap (map (node_of_tree from.tree)) (at_top from.path from.attribute f)
    by_path t h (Some q) f =
        let never : Some (node_of_tree from.tree (along q)) ≡ None =
        sym (ap (λ (o : Option PlainTree). then_found o (λ u. place_up from)) h ∙ ap (option_map (λ (path : List ℕ). node_of_tree from.tree (along path))) f) ∙ e in absurd (cc)

    by_node : (found : Option PlainTree) → node_in forest from ≡ found → ancestors_in forest from ≡ []
    by_node None h = ap (λ (o : Option PlainTree). places_where_found o (λ u. map (node_of_tree from.tree) (locations_above (location_of from)))) h
    by_node (Some t) h = by_path t h (parent_path (location_of from)) refl
