-- Steps by children and attributes, to the node itself and to the parent are the filters over all nodes.
use Rattle.std.proofs.Common.{◌≡◌, ℕ, zero, suc, ◌+◌, Bool, true, false, ◌&&◌, List, [], ◌∷◌, ◌++◌, map, filter, Option, None, Some, refl, sym, ap, ◌∙◌, arith, cond, subst, nat_eq, length, ◌<◌, if◌then◌else◌, eq-eqb}
use Rattle.std.proofs.lemmas.Bool.{eqb-true, true≢false}
use Rattle.std.specs.List.{slice_get}
use Rattle.std.specs.Option.{option_map, is_none}
use Rattle.std.proofs.lemmas.List.Elements.{filter-append, filter_agree}
use Rattle.gx_types.specs.declared.step.Axis.TheVariants as axes
use Rattle.gx_tree.specs.declared.attribute.Attribute.{Attribute}
use Rattle.gx_tree.specs.PlainTree.{PlainTree, attribute}
use Rattle.gx_model.specs.Forest.{then_found, children_of, own_attributes, tree_at, attribute_at}
use Rattle.gx_model.specs.Location.{Location, along, root_attribute, in_child, attribute_locations, all_locations, located}
use Rattle.gx_model.specs.Axes.{to_child, to_attribute, to_self, no_step, one_step, way_down, on_way, leads_down, leads_up, leads_to, passes_there, locations_on}
use Rattle.gx_model.specs.Stepping.{kept_if, found_at, passing_children, children_found, attribute_along, passing_attributes, attributes_found, self_found, behind_step, path_up, found_along, parent_found}
use Rattle.gx_model.proofs.ListLemmas.{nothing_passes, filter_mapped, append_none, map_appended}
use Rattle.gx_model.proofs.LocationLemmas.{listed, all_are, no_attribute, nothing_behind, only_root, under, under_found, down_is_local, nat_is_itself, nat_differs}

kept_mapped : (g : Location → Location) (b : Bool) (l : Location) → map g (kept_if b l) ≡ kept_if b (g l)
kept_mapped g true l = refl
kept_mapped g false l = refl

-- children

children_from : (p : PlainTree → Bool) (t : PlainTree) (k : ℕ) (us : List PlainTree) → ((i : ℕ) → slice_get (children_of t) (k + i) ≡ slice_get us i)
    → filter (λ to. leads_down to_child [] to && passes_there p (located t to)) (listed k us) ≡ passing_children p [] k us
children_from p t k [] h = refl
children_from p t k (u ∷ us) h =
    let f : Location → Bool = λ to. leads_down to_child [] to && passes_there p (located t to) in
    let here : slice_get (children_of t) k ≡ Some u = subst (λ n. slice_get (children_of t) n ≡ Some u) (omega arith) (h 0) in
    filter-append f (map (in_child k) (all_locations u)) (listed (suc k) us)
    ∙ ap (λ ls. ls ++ filter f (listed (suc k) us)) (
    filter_mapped f (in_child k) (all_locations u)
    ∙ ap (map (in_child k)) (only_root (λ to. f (in_child k to)) u (λ i. refl) (λ j to. refl))
    ∙ kept_mapped (in_child k) (passes_there p (located t (in_child k (along [])))) (along [])
    ∙ ap (λ (o : Option PlainTree). kept_if (passes_there p (then_found (then_found o (λ c. Some c)) (attribute_at None))) (along (k ∷ []))) here
    )
    ∙ ap (λ ls. kept_if (p u) (along (k ∷ [])) ++ ls) (children_from p t (suc k) us (λ i. subst (λ n. slice_get (children_of t) n ≡ slice_get us i) (omega arith) (h (suc i))))

children_of_root : (p : PlainTree → Bool) (t : PlainTree) → locations_on (leads_down to_child []) p t ≡ passing_children p [] 0 (children_of t)
children_of_root p t =
    let f : Location → Bool = λ to. leads_down to_child [] to && passes_there p (located t to) in
    ap (filter f) (all_are t)
    ∙ filter-append f (attribute_locations 0 (own_attributes t)) (listed 0 (children_of t))
    ∙ ap (λ ls. ls ++ filter f (listed 0 (children_of t))) (no_attribute f (λ i. refl) 0 (own_attributes t))
    ∙ children_from p t 0 (children_of t) (λ i. ap (slice_get (children_of t)) (omega arith))

children_under : (p : PlainTree → Bool) (path : List ℕ) (k : ℕ) (us : List PlainTree) → map (under path) (passing_children p [] k us) ≡ passing_children p path k us
children_under p path k [] = refl
children_under p path k (u ∷ us) =
    map_appended (under path) (kept_if (p u) (along (k ∷ []))) (passing_children p [] (suc k) us)
    ∙ ap (λ ls. ls ++ map (under path) (passing_children p [] (suc k) us)) (kept_mapped (under path) (p u) (along (k ∷ [])))
    ∙ ap (λ ls. kept_if (p u) (along (path ++ k ∷ [])) ++ ls) (children_under p path (suc k) us)

children_at : (p : PlainTree → Bool) (path : List ℕ) (found : Option PlainTree)
    → under_found path found (locations_on (leads_down to_child []) p) ≡ found_at found (λ u. passing_children p path 0 (children_of u))
children_at p path None = refl
children_at p path (Some u) = ap (map (under path)) (children_of_root p u) ∙ children_under p path 0 (children_of u)

abbrev at : List ℕ → Option ℕ → Location
at path own = record { path = path; attribute = own }

children_filtered : (p : PlainTree → Bool) (path : List ℕ) (own : Option ℕ) (t : PlainTree) → locations_on (leads_to axes.Child (at path own)) p t ≡ children_found p (at path own) t
children_filtered p path None t = down_is_local to_child p path t ∙ children_at p path (tree_at t path)
children_filtered p path (Some i) t = nothing_passes (λ to. leads_to axes.Child (at path (Some i)) to && passes_there p (located t to)) (λ to. refl) (all_locations t)

pub children_are_found : (p : PlainTree → Bool) (from : Location) (t : PlainTree) → children_found p from t ≡ locations_on (leads_to axes.Child from) p t
children_are_found p from t = sym (children_filtered p from.path from.attribute t)

-- attributes

attributes_from : (p : PlainTree → Bool) (t : PlainTree) (k : ℕ) (l : List Attribute) → ((i : ℕ) → slice_get (own_attributes t) (k + i) ≡ slice_get l i)
    → filter (λ to. leads_down to_attribute [] to && passes_there p (located t to)) (attribute_locations k l) ≡ passing_attributes p [] k l
attributes_from p t k [] h = refl
attributes_from p t k (a ∷ l) h =
    let f : Location → Bool = λ to. leads_down to_attribute [] to && passes_there p (located t to) in
    let here : slice_get (own_attributes t) k ≡ Some a = subst (λ n. slice_get (own_attributes t) n ≡ Some a) (omega arith) (h 0) in
    let rest = attributes_from p t (suc k) l (λ i. subst (λ n. slice_get (own_attributes t) n ≡ slice_get l i) (omega arith) (h (suc i))) in
    ap (λ (o : Option Attribute). cond (passes_there p (option_map attribute o)) (root_attribute k ∷ filter f (attribute_locations (suc k) l)) (filter f (attribute_locations (suc k) l))) here
    ∙ kept_before (p (attribute a)) (root_attribute k) (filter f (attribute_locations (suc k) l))
    ∙ ap (λ ls. kept_if (p (attribute a)) (attribute_along [] k) ++ ls) rest
  where
    kept_before : (b : Bool) (x : Location) (ls : List Location) → cond b (x ∷ ls) ls ≡ kept_if b x ++ ls
    kept_before true x ls = refl
    kept_before false x ls = refl

attributes_of_root : (p : PlainTree → Bool) (t : PlainTree) → locations_on (leads_down to_attribute []) p t ≡ passing_attributes p [] 0 (own_attributes t)
attributes_of_root p t =
    let f : Location → Bool = λ to. leads_down to_attribute [] to && passes_there p (located t to) in
    ap (filter f) (all_are t)
    ∙ filter-append f (attribute_locations 0 (own_attributes t)) (listed 0 (children_of t))
    ∙ ap (λ ls. filter f (attribute_locations 0 (own_attributes t)) ++ ls) (nothing_behind f 0 (children_of t) (λ j to below. refl))
    ∙ append_none (filter f (attribute_locations 0 (own_attributes t)))
    ∙ attributes_from p t 0 (own_attributes t) (λ i. ap (slice_get (own_attributes t)) (omega arith))

attributes_under : (p : PlainTree → Bool) (path : List ℕ) (k : ℕ) (l : List Attribute) → map (under path) (passing_attributes p [] k l) ≡ passing_attributes p path k l
attributes_under p path k [] = refl
attributes_under p path k (a ∷ l) =
    map_appended (under path) (kept_if (p (attribute a)) (attribute_along [] k)) (passing_attributes p [] (suc k) l)
    ∙ ap (λ ls. ls ++ map (under path) (passing_attributes p [] (suc k) l)) (kept_mapped (under path) (p (attribute a)) (attribute_along [] k) ∙ ap (λ q. kept_if (p (attribute a)) (attribute_along q k)) (append_none path))
    ∙ ap (λ ls. kept_if (p (attribute a)) (attribute_along path k) ++ ls) (attributes_under p path (suc k) l)

attributes_at : (p : PlainTree → Bool) (path : List ℕ) (found : Option PlainTree)
    → under_found path found (locations_on (leads_down to_attribute []) p) ≡ found_at found (λ u. passing_attributes p path 0 (own_attributes u))
attributes_at p path None = refl
attributes_at p path (Some u) = ap (map (under path)) (attributes_of_root p u) ∙ attributes_under p path 0 (own_attributes u)

attributes_filtered : (p : PlainTree → Bool) (path : List ℕ) (own : Option ℕ) (t : PlainTree) → locations_on (leads_to axes.Attribute (at path own)) p t ≡ attributes_found p (at path own) t
attributes_filtered p path None t = down_is_local to_attribute p path t ∙ attributes_at p path (tree_at t path)
attributes_filtered p path (Some i) t = nothing_passes (λ to. leads_to axes.Attribute (at path (Some i)) to && passes_there p (located t to)) (λ to. refl) (all_locations t)

pub attributes_are_found : (p : PlainTree → Bool) (from : Location) (t : PlainTree) → attributes_found p from t ≡ locations_on (leads_to axes.Attribute from) p t
attributes_are_found p from t = sym (attributes_filtered p from.path from.attribute t)

-- the node itself

no_more_attributes : (p : PlainTree → Bool) (t : PlainTree) (m k : ℕ) (l : List Attribute) → m < k
    → filter (λ to. leads_down (to_self (Some m)) [] to && passes_there p (located t to)) (attribute_locations k l) ≡ []
no_more_attributes p t m k [] below = refl
no_more_attributes p t m k (a ∷ l) below =
    rw (nat_differs m k (λ same. absurd (omega arith))) (no_more_attributes p t m (suc k) l (omega arith))

one_attribute : (p : PlainTree → Bool) (t : PlainTree) (k : ℕ) (l : List Attribute) (n m : ℕ) → m ≡ k + n → ((i : ℕ) → slice_get (own_attributes t) (k + i) ≡ slice_get l i)
    → filter (λ to. leads_down (to_self (Some m)) [] to && passes_there p (located t to)) (attribute_locations k l) ≡ kept_if (passes_there p (option_map attribute (slice_get l n))) (root_attribute m)
one_attribute p t k [] n m e h = refl
one_attribute p t k (a ∷ l) zero m e h =
    let same : k ≡ m = omega arith in
    let here : slice_get (own_attributes t) m ≡ Some a = subst (λ j. slice_get (own_attributes t) j ≡ Some a) (omega arith) (h 0) in
    let F : ℕ → List Location = λ j. filter (λ to. leads_down (to_self (Some m)) [] to && passes_there p (located t to)) (attribute_locations j (a ∷ l)) in
    ap F same
    ∙ ap (λ (ls : List Location). cond (nat_eq m m && passes_there p (option_map attribute (slice_get (own_attributes t) m))) (root_attribute m ∷ ls) ls) (no_more_attributes p t m (suc m) l (omega arith))
    ∙ ap (λ (b : Bool). kept_if (b && passes_there p (option_map attribute (slice_get (own_attributes t) m))) (root_attribute m)) (nat_is_itself m)
    ∙ ap (λ (o : Option Attribute). kept_if (passes_there p (option_map attribute o)) (root_attribute m)) here
one_attribute p t k (a ∷ l) (suc n) m e h =
    rw (nat_differs m k (λ same. absurd (omega arith)))
    (one_attribute p t (suc k) l n m (omega arith) (λ i. subst (λ j. slice_get (own_attributes t) j ≡ slice_get l i) (omega arith) (h (suc i))))

self_of_root : (p : PlainTree → Bool) (own : Option ℕ) (t : PlainTree) → locations_on (leads_down (to_self own) []) p t ≡ kept_if (passes_there p (attribute_at own t)) (at [] own)
self_of_root p None t = only_root (λ to. leads_down (to_self None) [] to && passes_there p (located t to)) t (λ i. refl) (λ j to. refl)
self_of_root p (Some m) t =
    let f : Location → Bool = λ to. leads_down (to_self (Some m)) [] to && passes_there p (located t to) in
    ap (filter f) (all_are t)
    ∙ filter-append f (attribute_locations 0 (own_attributes t)) (listed 0 (children_of t))
    ∙ ap (λ ls. filter f (attribute_locations 0 (own_attributes t)) ++ ls) (nothing_behind f 0 (children_of t) (λ j to below. refl))
    ∙ append_none (filter f (attribute_locations 0 (own_attributes t)))
    ∙ one_attribute p t 0 (own_attributes t) m m (omega arith) (λ i. ap (slice_get (own_attributes t)) (omega arith))

self_at : (p : PlainTree → Bool) (path : List ℕ) (own : Option ℕ) (found : Option PlainTree)
    → under_found path found (locations_on (leads_down (to_self own) []) p) ≡ kept_if (passes_there p (then_found found (attribute_at own))) (at path own)
self_at p path own None = refl
self_at p path own (Some u) =
    ap (map (under path)) (self_of_root p own u)
    ∙ kept_mapped (under path) (passes_there p (attribute_at own u)) (at [] own)
    ∙ ap (λ q. kept_if (passes_there p (attribute_at own u)) (at q own)) (append_none path)

-- each node stands once
self_filtered : (p : PlainTree → Bool) (path : List ℕ) (own : Option ℕ) (t : PlainTree) → locations_on (leads_down (to_self own) path) p t ≡ self_found p (at path own) t
self_filtered p path own t = down_is_local (to_self own) p path t ∙ self_at p path own (tree_at t path)

pub self_is_found : (p : PlainTree → Bool) (from : Location) (t : PlainTree) → self_found p from t ≡ locations_on (leads_to axes.SelfAxis from) p t
self_is_found p from t = sym (self_filtered p from.path from.attribute t)

-- the parent

pub not_both : (b : Bool) → (b && false) ≡ false
not_both true = refl
not_both false = refl

pub nat_symmetric : (m n : ℕ) → nat_eq m n ≡ nat_eq n m
nat_symmetric m n = symmetric_if m n (nat_eq m n) refl
  where
    symmetric_if : (m n : ℕ) (b : Bool) → nat_eq m n ≡ b → nat_eq m n ≡ nat_eq n m
    symmetric_if m n true e = e ∙ sym (eq-eqb n m (sym (eqb-true m n e)))
    symmetric_if m n false e = e ∙ sym (nat_differs n m (λ same. absurd (true≢false (sym (eq-eqb m n (sym same)) ∙ e))))

same_path_if : (q path : List ℕ) (a : Option ℕ) (b : Bool) → (is_none a && on_way no_step (way_down q path)) ≡ on_way (λ way. to_self None way a) (way_down path q)
    → (is_none a && on_way no_step (if b then way_down q path else None)) ≡ on_way (λ way. to_self None way a) (if b then way_down path q else None)
same_path_if q path a true e = e
same_path_if q path a false e = not_both (is_none a)

same_path : (q path : List ℕ) (a : Option ℕ) → (is_none a && on_way no_step (way_down q path)) ≡ on_way (λ way. to_self None way a) (way_down path q)
same_path [] [] None = refl
same_path [] [] (Some i) = refl
same_path [] (n ∷ path) a = not_both (is_none a)
same_path (m ∷ q) [] a = not_both (is_none a)
same_path (m ∷ q) (n ∷ path) a =
    same_path_if q path a (nat_eq m n) (same_path q path a)
    ∙ ap (λ (b : Bool). on_way (λ way. to_self None way a) (if b then way_down path q else None)) (nat_symmetric m n)

abbrev ends_at_parent : List ℕ → Option (List ℕ) → Bool
ends_at_parent to None = false
ends_at_parent to (Some path) = on_way no_step (way_down to path)

root_is_no_parent : (m : ℕ) (up : Option (List ℕ)) → false ≡ ends_at_parent [] (behind_step m up)
root_is_no_parent m None = refl
root_is_no_parent m (Some path) = refl

parent_behind : (k m : ℕ) (to : List ℕ) (up : Option (List ℕ)) (b : Bool) → nat_eq k m ≡ b → (if b then ends_at_parent to up else false) ≡ ends_at_parent (k ∷ to) (behind_step m up)
parent_behind k m to None true e = refl
parent_behind k m to None false e = refl
parent_behind k m to (Some path) true e = rw e refl
parent_behind k m to (Some path) false e = rw e refl

one_step_if : (b : Bool) (o : Option (List ℕ)) → on_way one_step (if b then o else None) ≡ (if b then on_way one_step o else false)
one_step_if true o = refl
one_step_if false o = refl

one_step_up : (to path : List ℕ) → on_way one_step (way_down to path) ≡ ends_at_parent to (path_up path)
one_step_up [] [] = refl
one_step_up (k ∷ to) [] = refl
one_step_up [] (n ∷ []) = refl
one_step_up (k ∷ []) (n ∷ []) = one_step_if (nat_eq k n) (Some []) ∙ never_one (nat_eq k n)
  where
    never_one : (b : Bool) → (if b then false else false) ≡ false
    never_one true = refl
    never_one false = refl
one_step_up (k ∷ j ∷ to) (n ∷ []) = one_step_if (nat_eq k n) None ∙ never_one (nat_eq k n)
  where
    never_one : (b : Bool) → (if b then false else false) ≡ false
    never_one true = refl
    never_one false = refl
one_step_up [] (m ∷ n ∷ path) = root_is_no_parent m (path_up (n ∷ path))
one_step_up (k ∷ to) (m ∷ n ∷ path) =
    one_step_if (nat_eq k m) (way_down to (n ∷ path))
    ∙ ap (λ (b : Bool). if nat_eq k m then b else false) (one_step_up to (n ∷ path))
    ∙ parent_behind k m to (path_up (n ∷ path)) (nat_eq k m) refl

parent_at : (p : PlainTree → Bool) (path : List ℕ) (t : PlainTree) (up : Option (List ℕ)) → path_up path ≡ up
    → locations_on (leads_up one_step path) p t ≡ found_along p up t
parent_at p path t None e =
    nothing_passes (λ to. leads_up one_step path to && passes_there p (located t to))
    (λ to. ap (λ (b : Bool). (is_none to.attribute && b) && passes_there p (located t to)) (one_step_up to.path path ∙ ap (ends_at_parent to.path) e)
    ∙ ap (λ (b : Bool). b && passes_there p (located t to)) (not_both (is_none to.attribute)))
    (all_locations t)
parent_at p path t (Some q) e =
    filter_agree (λ to. leads_up one_step path to && passes_there p (located t to)) (λ to. leads_down (to_self None) q to && passes_there p (located t to))
    (λ to. ap (λ (b : Bool). b && passes_there p (located t to))
    (ap (λ (b : Bool). is_none to.attribute && b) (one_step_up to.path path ∙ ap (ends_at_parent to.path) e) ∙ same_path to.path q to.attribute))
    (all_locations t)
    ∙ self_filtered p q None t
    ∙ ap (λ (o : Option PlainTree). kept_if (passes_there p o) (along q)) (as_found (tree_at t q))
  where
    as_found : (o : Option PlainTree) → then_found o (attribute_at None) ≡ o
    as_found None = refl
    as_found (Some u) = refl

parent_filtered : (p : PlainTree → Bool) (path : List ℕ) (own : Option ℕ) (t : PlainTree) → locations_on (leads_to axes.Parent (at path own)) p t ≡ parent_found p (at path own) t
parent_filtered p path None t = parent_at p path t (path_up path) refl
parent_filtered p path (Some i) t =
    filter_agree (λ to. leads_up no_step path to && passes_there p (located t to)) (λ to. leads_down (to_self None) path to && passes_there p (located t to))
    (λ to. ap (λ (b : Bool). b && passes_there p (located t to)) (same_path to.path path to.attribute))
    (all_locations t)
    ∙ self_filtered p path None t
    ∙ ap (λ (o : Option PlainTree). kept_if (passes_there p o) (along path)) (as_found (tree_at t path))
  where
    as_found : (o : Option PlainTree) → then_found o (attribute_at None) ≡ o
    as_found None = refl
    as_found (Some u) = refl

pub parent_is_found : (p : PlainTree → Bool) (from : Location) (t : PlainTree) → parent_found p from t ≡ locations_on (leads_to axes.Parent from) p t
parent_is_found p from t = sym (parent_filtered p from.path from.attribute t)

-- the path without its last position

pub path_up_front : (front : List ℕ) (last : ℕ) → path_up (front ++ last ∷ []) ≡ Some front
path_up_front [] last = refl
path_up_front (n ∷ []) last = refl
path_up_front (m ∷ n ∷ front) last = ap (behind_step m) (path_up_front (n ∷ front) last)

-- lengths of ways

pub no_step_is : (way : List ℕ) → nat_eq (length way) 0 ≡ no_step way
no_step_is [] = refl
no_step_is (n ∷ way) = nat_differs (length (n ∷ way)) 0 (λ e. absurd (omega arith))

pub one_step_is : (way : List ℕ) → nat_eq (length way) 1 ≡ one_step way
one_step_is [] = refl
one_step_is (n ∷ []) = refl
one_step_is (m ∷ n ∷ way) = nat_differs (length (m ∷ n ∷ way)) 1 (λ e. absurd (omega arith))
