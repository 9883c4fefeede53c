-- Nodes in document order keep their type.
use Rattle.std.proofs.Common.{◌≡◌, ◌+◌, ◌≤◌, ◌<◌, ℕ, zero, suc, Bool, true, false, ◌&&◌, ◌||◌, List, [], ◌∷◌, ◌++◌, map, filter, cond, length, Option, None, Some, refl, sym, ◌∙◌, ap, subst, nat_eq, arith, if◌then◌else◌}
use Rattle.std.specs.List.{list_any, slice_get}
use Rattle.std.specs.Option.{option_map}
use Rattle.std.specs.Cmp.Lexicographic.{pointwise, same_text}
use Rattle.std.proofs.lemmas.Bool.{and_parts, eqb-true}
use Rattle.gx_base.specs.declared.code.Code.TheVariants.{XPTY0018}
use Rattle.gx_types.specs.declared.shape.Shape.{Shape}
use Rattle.gx_types.specs.SchemaSet.{SchemaSet}
use Rattle.gx_types.specs.Occurrence.{occurrence_of}
use Rattle.gx_types.specs.SequenceType.{SequenceType, never, nothing, item, both, either, optional, star, plus}
use Rattle.gx_types.specs.Prime.{prime_of}
use Rattle.gx_types.specs.TypeRules.{times_of}
use Rattle.gx_types.specs.Takes.{Takes, Each, all_joined}
use Rattle.gx_types.specs.Laws.{Allows}
use Rattle.gx_tree.specs.PlainTree.{PlainTree}
use Rattle.gx_model.specs.Forest.{Forest, PlainNode, then_found}
use Rattle.gx_model.specs.Honest.{IsHonest}
use Rattle.gx_model.specs.Item.{Item, atom, node, Items}
use Rattle.gx_model.specs.Belongs.{shape_of, item_shape, HaveShapes, Belongs}
use Rattle.gx_model.specs.Location.{Location, all_locations, located, location_of, node_of_tree}
use Rattle.gx_model.specs.Axes.{way_down, on_way, same_position, to_self, leads_to, passes_there}
use Rattle.gx_types.specs.declared.step.Axis.TheVariants as axes
use Rattle.gx_model.specs.Stepping.{kept_if}
use Rattle.gx_model.specs.DocumentOrder.{nodes_from, same_node, in_document_order}
use Rattle.gx_model.proofs.AxisLemmas.{self_is_found}
use Rattle.gx_model.proofs.ListLemmas.{filter_mapped}
use Rattle.gx_model.proofs.LocationLemmas.{nat_is_itself}
use Rattle.gx_include.specs.Decision.{is_included}
use Rattle.gx_core.specs.Outcome.{gives, wrong}
use Rattle.gx_core.specs.Paths.{is_node, places_of, put_in_order}
use Rattle.gx_core.specs.Soundness.{typed_setting, Keeps}
use Rattle.gx_static.specs.Rule.{has_type, has_none, all_items, is_atomic, nodes_type}
use Rattle.gx_static.specs.Laws.{OrderKeepsType}
use Rattle.gx_static.proofs.ItemLemmas.{EachItem, IsAtom, IsNode, items_are_atoms, belongs_within}
use Rattle.gx_static.proofs.Keeping.{ruled, tested, value_keeps, have_joined}
use Rattle.gx_static.proofs.Loops.{EachBelongs, items_belong, joined_belongs_times}
use Rattle.gx_static.proofs.Paths.{nodes_in_type, all_are_nodes}

-- ---- equal nodes

same_positions : (a b : Option ℕ) → same_position a b ≡ true → a ≡ b
same_positions None None e = refl
same_positions (Some m) (Some n) e = ap Some (eqb-true m n e)
same_positions None (Some n) e = absurd (cc)
same_positions (Some m) None e = absurd (cc)

position_itself : (a : Option ℕ) → same_position a a ≡ true
position_itself None = refl
position_itself (Some n) = nat_is_itself n

path_itself : (path : List ℕ) → pointwise nat_eq path path ≡ true
path_itself [] = refl
path_itself (n ∷ path) = ap (λ (b : Bool). b && pointwise nat_eq path path) (nat_is_itself n) ∙ path_itself path

one_node : (tree : ℕ) (path other : List ℕ) (a b : Option ℕ) (n : ℕ) → tree ≡ n → path ≡ other → a ≡ b → (let x : PlainNode = record { tree = tree; path = path; attribute = a } in x) ≡ record { tree = n; path = other; attribute = b }
one_node tree path other a b n e f g = cc

same_is_one : (n p : PlainNode) → same_node n p ≡ true → n ≡ p
same_is_one n p e =
    let q = and_parts (nat_eq n.tree p.tree && pointwise nat_eq n.path p.path) (same_position n.attribute p.attribute) e in
    let r = and_parts (nat_eq n.tree p.tree) (pointwise nat_eq n.path p.path) q.0 in
    one_node n.tree n.path p.path n.attribute p.attribute p.tree (eqb-true n.tree p.tree r.0) (same_text n.path p.path (sym r.1)) (same_positions n.attribute p.attribute q.1)

node_itself : (n : PlainNode) → same_node n n ≡ true
node_itself n =
    ap (λ (b : Bool). b && pointwise nat_eq n.path n.path && same_position n.attribute n.attribute) (nat_is_itself n.tree)
    ∙ ap (λ (b : Bool). b && same_position n.attribute n.attribute) (path_itself n.path)
    ∙ position_itself n.attribute

-- ---- counts

abbrev pub count : {A : Type 0} → (A → Bool) → List A → ℕ
count f xs = length (filter f xs)

-- a test that passes less often passes fewer
count_if : {A : Type 0} → (f g : A → Bool) (x : A) (xs : List A) (b c : Bool) → (b ≡ true → c ≡ true) → count f xs ≤ count g xs → length (cond b (x ∷ filter f xs) (filter f xs)) ≤ length (cond c (x ∷ filter g xs) (filter g xs))
count_if f g x xs true true h l = omega (arith, l)
count_if f g x xs false true h l = omega (arith, l)
count_if f g x xs false false h l = l
count_if f g x xs true false h l = let e = h refl in absurd (cc)

pub fewer_pass : {A : Type 0} → (f g : A → Bool) → ((x : A) → f x ≡ true → g x ≡ true) → (xs : List A) → count f xs ≤ count g xs
fewer_pass f g h [] = omega arith
fewer_pass f g h (x ∷ xs) = count_if f g x xs (f x) (g x) (h x) (fewer_pass f g h xs)

joined_if : {A : Type 0} → (f : A → Bool) (x : A) (xs ys : List A) (b : Bool) → count f (xs ++ ys) ≡ count f xs + count f ys
    → length (cond b (x ∷ filter f (xs ++ ys)) (filter f (xs ++ ys))) ≡ length (cond b (x ∷ filter f xs) (filter f xs)) + count f ys
joined_if f x xs ys true e = omega (arith, e)
joined_if f x xs ys false e = e

count_joined : {A : Type 0} → (f : A → Bool) (xs ys : List A) → count f (xs ++ ys) ≡ count f xs + count f ys
count_joined f [] ys = omega arith
count_joined f (x ∷ xs) ys = joined_if f x xs ys (f x) (count_joined f xs ys)

count_none : {A : Type 0} → (f : A → Bool) → ((x : A) → f x ≡ false) → (xs : List A) → count f xs ≡ 0
count_none f h [] = refl
count_none f h (x ∷ xs) = ap (λ (b : Bool). length (cond b (x ∷ filter f xs) (filter f xs))) (h x) ∙ count_none f h xs

map_length : {A B : Type 0} → (g : A → B) (xs : List A) → length (map g xs) ≡ length xs
map_length g [] = refl
map_length g (x ∷ xs) = ap suc (map_length g xs)

count_mapped : {A B : Type 0} → (f : B → Bool) (g : A → B) (xs : List A) → count f (map g xs) ≡ count (λ x. f (g x)) xs
count_mapped f g xs = ap length (filter_mapped f g xs) ∙ map_length g (filter (λ x. f (g x)) xs)

-- ---- each node stands once

-- a location that leads to itself

leads_itself : (path : List ℕ) (own : Option ℕ) → on_way (λ way. to_self own way own) (way_down path path) ≡ true
leads_itself [] own = position_itself own
leads_itself (n ∷ path) own = ap (λ (b : Bool). on_way (λ way. to_self own way own) (if b then way_down path path else None)) (nat_is_itself n) ∙ leads_itself path own

ends_there : (path to : List ℕ) (own a : Option ℕ) → on_way (λ way. to_self own way a) (way_down path to) ≡ true → (to ≡ path) × (a ≡ own)
ends_there [] [] own a e = (refl, sym (same_positions own a e))
ends_there [] (n ∷ to) own a e = absurd (cc)
ends_there (n ∷ path) [] own a e = absurd (cc)
ends_there (n ∷ path) (m ∷ to) own a e =
    elim (nat_eq n m) as (λ (b : Bool). nat_eq n m ≡ b → on_way (λ way. to_self own way a) (if b then way_down path to else None) ≡ true → ((m ∷ to) ≡ (n ∷ path)) × (a ≡ own)) [
      | true ↦ λ same f. let r = ends_there path to own a f in let one : n ≡ m = eqb-true n m same in (ap (λ (k : ℕ). k ∷ to) (sym one) ∙ ap (λ (ps : List ℕ). n ∷ ps) r.0, r.1)
      | false ↦ λ same f. absurd (cc)
    ] refl e

-- where a node is found, it is among the locations of its tree once

found_passes : (o : Option PlainTree) (t : PlainTree) → o ≡ Some t → passes_there (λ u. true) o ≡ true
found_passes None t e = absurd (cc)
found_passes (Some u) t e = refl

abbrev is_there : PlainNode → PlainTree → Location → Bool
is_there p t to = leads_to axes.SelfAxis (location_of p) to && passes_there (λ u. true) (located t to)

there_once : (p : PlainNode) (t u : PlainTree) → located t (location_of p) ≡ Some u → count (is_there p t) (all_locations t) ≡ 1
there_once p t u e = ap length (sym (self_is_found (λ v. true) (location_of p) t)) ∙ ap (λ (b : Bool). length (kept_if b (location_of p))) (found_passes (located t (location_of p)) u e)

same_when_there : (k : ℕ) (p : PlainNode) (t : PlainTree) → p.tree ≡ k → (to : Location) → is_there p t to ≡ true → same_node (node_of_tree k to) p ≡ true
same_when_there k p t e to h =
    let q = and_parts (leads_to axes.SelfAxis (location_of p) to) (passes_there (λ u. true) (located t to)) h in
    let r = ends_there p.path to.path p.attribute to.attribute q.0 in
    subst (λ (n : PlainNode). same_node n p ≡ true) (sym (one_node k to.path p.path to.attribute p.attribute p.tree (sym e) r.0 r.1)) (node_itself p)

there_when_same : (k : ℕ) (p : PlainNode) (t u : PlainTree) → located t (location_of p) ≡ Some u → (to : Location) → same_node (node_of_tree k to) p ≡ true → is_there p t to ≡ true
there_when_same k p t u e to h =
    let same : node_of_tree k to ≡ p = same_is_one (node_of_tree k to) p h in
    let place : to ≡ location_of p = ap location_of same in
    subst (λ (l : Location). is_there p t l ≡ true) (sym place)
    (ap (λ (b : Bool). b && passes_there (λ v. true) (located t (location_of p))) (leads_itself p.path p.attribute) ∙ found_passes (located t (location_of p)) u e)

once_in_tree : (k : ℕ) (p : PlainNode) (t u : PlainTree) → p.tree ≡ k → located t (location_of p) ≡ Some u → count (λ n. same_node n p) (map (node_of_tree k) (all_locations t)) ≡ 1
once_in_tree k p t u e f =
    let low = fewer_pass (is_there p t) (λ to. same_node (node_of_tree k to) p) (same_when_there k p t e) (all_locations t) in
    let high = fewer_pass (λ to. same_node (node_of_tree k to) p) (is_there p t) (there_when_same k p t u f) (all_locations t) in
    let one = there_once p t u f in
    count_mapped (λ n. same_node n p) (node_of_tree k) (all_locations t) ∙ omega (arith, low, high, one)

-- a node of another tree is not among them

differs : (k : ℕ) (p : PlainNode) → (k ≡ p.tree → ⊥) → (b c d : Bool) → nat_eq k p.tree ≡ b → ((b && c) && d) ≡ false
differs k p n true c d e = absurd (n (eqb-true k p.tree e))
differs k p n false c d e = refl

not_in_tree : (k : ℕ) (p : PlainNode) (t : PlainTree) → (k ≡ p.tree → ⊥) → count (λ n. same_node n p) (map (node_of_tree k) (all_locations t)) ≡ 0
not_in_tree k p t n =
    count_mapped (λ m. same_node m p) (node_of_tree k) (all_locations t)
    ∙ count_none (λ to. same_node (node_of_tree k to) p) (λ to. differs k p n (nat_eq k p.tree) (pointwise nat_eq to.path p.path) (same_position to.attribute p.attribute) refl) (all_locations t)

not_behind : (forest : Forest) (k : ℕ) (p : PlainNode) → p.tree < k → count (λ n. same_node n p) (nodes_from k forest) ≡ 0
not_behind [] k p l = refl
not_behind (t ∷ forest) k p l =
    let here = not_in_tree k p t (λ e. omega (arith, l, e)) in
    let there = not_behind forest (suc k) p (omega (arith, l)) in
    count_joined (λ n. same_node n p) (map (node_of_tree k) (all_locations t)) (nodes_from (suc k) forest) ∙ omega (arith, here, there)

once_in_forest : (forest : Forest) (k i : ℕ) (p : PlainNode) (t u : PlainTree) → slice_get forest i ≡ Some t → p.tree ≡ k + i → located t (location_of p) ≡ Some u → count (λ n. same_node n p) (nodes_from k forest) ≡ 1
once_in_forest [] k i p t u e f g = absurd (cc)
once_in_forest (v ∷ forest) k zero p t u e f g =
    let same : v ≡ t = cc in
    let here = once_in_tree k p v u (omega (arith, f)) (subst (λ (w : PlainTree). located w (location_of p) ≡ Some u) (sym same) g) in
    let there = not_behind forest (suc k) p (omega (arith, f)) in
    count_joined (λ n. same_node n p) (map (node_of_tree k) (all_locations v)) (nodes_from (suc k) forest) ∙ omega (arith, here, there)
once_in_forest (v ∷ forest) k (suc i) p t u e f g =
    let here = not_in_tree k p v (λ h. omega (arith, f, h)) in
    let there = once_in_forest forest (suc k) i p t u e (omega (arith, f)) g in
    count_joined (λ n. same_node n p) (map (node_of_tree k) (all_locations v)) (nodes_from (suc k) forest) ∙ omega (arith, here, there)

-- a node with a shape stands in the forest

once_in_tree_of : (forest : Forest) (p : PlainNode) (t : PlainTree) (shape : Shape) (o : Option PlainTree) → slice_get forest p.tree ≡ Some t → located t (location_of p) ≡ o
    → option_map shape_of o ≡ Some shape → count (λ n. same_node n p) (nodes_from 0 forest) ≡ 1
once_in_tree_of forest p t shape None e f g = absurd (cc)
once_in_tree_of forest p t shape (Some u) e f g = once_in_forest forest 0 p.tree p t u e (omega arith) f

once_if_found : (forest : Forest) (p : PlainNode) (shape : Shape) (o : Option PlainTree) → slice_get forest p.tree ≡ o → option_map shape_of (then_found o (λ t. located t (location_of p))) ≡ Some shape
    → count (λ n. same_node n p) (nodes_from 0 forest) ≡ 1
once_if_found forest p shape None e f = absurd (cc)
once_if_found forest p shape (Some t) e f = once_in_tree_of forest p t shape (located t (location_of p)) e refl f

stands_once : (forest : Forest) (p : PlainNode) (shape : Shape) → item_shape forest (node p) ≡ Some shape → count (λ n. same_node n p) (nodes_from 0 forest) ≡ 1
stands_once forest p shape e = once_if_found forest p shape (slice_get forest p.tree) refl e

-- ---- how many nodes there are in order

pub least_is_small : (t : SequenceType) → (occurrence_of t).least ≤ 1
least_is_small never = omega arith
least_is_small nothing = omega arith
least_is_small (item kind) = omega arith
least_is_small (both a b) = let l = least_is_small a in let m = least_is_small b in omega (arith, l, m)
least_is_small (either a b) = let l = least_is_small a in let m = least_is_small b in omega (arith, l, m)
least_is_small (optional a) = omega arith
least_is_small (star a) = omega arith
least_is_small (plus a) = least_is_small a

some_there : (forest : Forest) (p : PlainNode) (others : List PlainNode) → count (λ n. same_node n p) (nodes_from 0 forest) ≡ 1 → 1 ≤ count (λ n. list_any (same_node n) (p ∷ others)) (nodes_from 0 forest)
some_there forest p others e =
    let l = fewer_pass (λ n. same_node n p) (λ n. list_any (same_node n) (p ∷ others)) (λ n h. ap (λ (b : Bool). b || list_any (same_node n) others) h) (nodes_from 0 forest) in omega (arith, l, e)

only_there : (b : Bool) → (b || false) ≡ true → b ≡ true
only_there true e = refl
only_there false e = e

one_there : (forest : Forest) (p : PlainNode) → count (λ n. same_node n p) (nodes_from 0 forest) ≡ 1 → count (λ n. list_any (same_node n) (p ∷ [])) (nodes_from 0 forest) ≤ 1
one_there forest p e =
    let l = fewer_pass (λ n. list_any (same_node n) (p ∷ [])) (λ n. same_node n p) (λ n h. only_there (same_node n p) h) (nodes_from 0 forest) in omega (arith, l, e)

pub ordered_count : (s : SchemaSet) (forest : Forest) (t : SequenceType) (xs : Items) (ss : List Shape) → EachItem IsNode xs → HaveShapes s forest xs ss → Allows (occurrence_of t) (length xs)
    → Allows (occurrence_of t) (length (in_document_order forest (places_of xs)))
ordered_count s forest t [] ss nodes h w =
    let none = count_none (λ n. list_any (same_node n) []) (λ n. refl) (nodes_from 0 forest) in
    record { least = omega (arith, w.least, none); greatest = λ g. omega (arith, none) }
ordered_count s forest t (atom a ∷ xs) ss nodes h w = absurd (cc (nodes.0.1))
ordered_count s forest t (node p ∷ xs) [] nodes h w = absurd h
ordered_count s forest t (node p ∷ xs) (shape ∷ ss) nodes h w =
    let once = stands_once forest p shape h.0 in
    let some = some_there forest p (places_of xs) once in
    let small = least_is_small t in
    record { least = omega (arith, small, some); greatest = λ g. at_most xs nodes.1 (w.greatest g) g }
  where
    at_most : (ys : Items) → EachItem IsNode ys → length (node p ∷ ys) ≤ (occurrence_of t).greatest → (occurrence_of t).greatest < 2 → count (λ n. list_any (same_node n) (p ∷ places_of ys)) (nodes_from 0 forest) ≤ (occurrence_of t).greatest
    at_most [] k l g = let one = one_there forest p (stands_once forest p shape h.0) in omega (arith, one, l)
    at_most (y ∷ ys) k l g = absurd (omega (arith, l, g))

-- ---- the nodes in order belong to the type

same_belongs : (s : SchemaSet) (forest : Forest) (t : SequenceType) (n p : PlainNode) → same_node n p ≡ true → Belongs s forest (node p ∷ []) t → Belongs s forest (node n ∷ []) t
same_belongs s forest t n p e b = subst (λ (m : PlainNode). Belongs s forest (node m ∷ []) t) (sym (same_is_one n p e)) b

pub among_belongs : (s : SchemaSet) (forest : Forest) (t : SequenceType) (n : PlainNode) (xs : Items) → EachBelongs s forest t xs → list_any (same_node n) (places_of xs) ≡ true → Belongs s forest (node n ∷ []) t
among_belongs s forest t n [] h e = absurd (cc)
among_belongs s forest t n (atom a ∷ xs) h e = among_belongs s forest t n xs h.1 e
among_belongs s forest t n (node p ∷ xs) h e =
    elim (same_node n p) as (λ (b : Bool). same_node n p ≡ b → (b || list_any (same_node n) (places_of xs)) ≡ true → Belongs s forest (node n ∷ []) t) [
      | true ↦ λ same f. same_belongs s forest t n p same h.0
      | false ↦ λ same f. among_belongs s forest t n xs h.1 f
    ] refl e

-- as lists of one shape each
pub record SingleLists (s : SchemaSet) (forest : Forest) (t : SequenceType) (nodes : List PlainNode) : Type 0 where
  pub parts : List (List Shape)
  pub shaped : HaveShapes s forest (map node nodes) (all_joined parts)
  pub each : Each (Takes s t) parts
  pub counted : length parts ≡ length nodes

kept_if_single : (s : SchemaSet) (forest : Forest) (t : SequenceType) (n : PlainNode) (kept : List PlainNode) (b : Bool) → (b ≡ true → Belongs s forest (node n ∷ []) t) → SingleLists s forest t kept → SingleLists s forest t (cond b (n ∷ kept) kept)
kept_if_single s forest t n kept true h r =
    let b = h refl in record {
      parts = b.seen ∷ r.parts;
      shaped = have_joined s forest (node n ∷ []) (map node kept) b.seen (all_joined r.parts) b.shaped r.shaped;
      each = (b.taken, r.each);
      counted = ap suc r.counted;
    }
kept_if_single s forest t n kept false h r = r

pub kept_lists : (s : SchemaSet) (forest : Forest) (t : SequenceType) (test : PlainNode → Bool) → ((n : PlainNode) → test n ≡ true → Belongs s forest (node n ∷ []) t) → (all : List PlainNode) → SingleLists s forest t (filter test all)
kept_lists s forest t test h [] = record { parts = []; shaped = tt; each = tt; counted = refl }
kept_lists s forest t test h (n ∷ all) = kept_if_single s forest t n (filter test all) (test n) (h n) (kept_lists s forest t test h all)

pub in_order_belongs : (s : SchemaSet) (forest : Forest) (t : SequenceType) (xs : Items) → EachItem IsNode xs → Belongs s forest xs t
    → Belongs s forest (map node (in_document_order forest (places_of xs))) (times_of (prime_of t) (occurrence_of t))
in_order_belongs s forest t xs nodes b =
    let r = kept_lists s forest (prime_of t) (λ n. list_any (same_node n) (places_of xs)) (λ n e. among_belongs s forest (prime_of t) n xs (items_belong s forest t xs b) e) (nodes_from 0 forest) in
    joined_belongs_times s forest (prime_of t) (occurrence_of t) (length (in_document_order forest (places_of xs))) (map node (in_document_order forest (places_of xs))) (all_joined r.parts)
    (ordered_count s forest t xs b.seen nodes b.shaped (belongs_within s forest t xs b)) r.shaped (record { parts = r.parts; joined = refl; each = r.each; count = r.counted })

-- ---- the law

order_of_nodes : (s : SchemaSet) (forest : Forest) (t : SequenceType) (xs : Items) → IsHonest s forest → EachItem IsNode xs → Belongs s forest xs t
    → Keeps (typed_setting s) forest (times_of (prime_of t) (occurrence_of t)) (put_in_order xs forest)
order_of_nodes s forest t xs honest nodes b =
    subst (λ (c : Bool). Keeps (typed_setting s) forest (times_of (prime_of t) (occurrence_of t)) (if c then gives (map node (in_document_order forest (places_of xs))) forest else (if list_any is_node xs then wrong else gives xs forest)))
    (sym (all_are_nodes xs nodes))
    (value_keeps s (times_of (prime_of t) (occurrence_of t)) (times_of (prime_of t) (occurrence_of t)) forest (map node (in_document_order forest (places_of xs))) refl honest (in_order_belongs s forest t xs nodes b))

nothing_in_order : (forest : Forest) → in_document_order forest [] ≡ []
nothing_in_order forest = none_kept (nodes_from 0 forest)
  where
    none_kept : (ns : List PlainNode) → filter (λ n. list_any (same_node n) []) ns ≡ []
    none_kept [] = refl
    none_kept (n ∷ ns) = none_kept ns

no_node_among : (xs : Items) → EachItem IsAtom xs → list_any is_node xs ≡ false
no_node_among [] h = refl
no_node_among (x ∷ xs) h = subst (λ (y : Item). (is_node y || list_any is_node xs) ≡ false) (sym h.0.1) (no_node_among xs h.1)

order_of_atoms : (s : SchemaSet) (forest : Forest) (t : SequenceType) (xs : Items) → IsHonest s forest → EachItem IsAtom xs → Belongs s forest xs t → Keeps (typed_setting s) forest t (put_in_order xs forest)
order_of_atoms s forest t [] honest atoms b =
    subst (λ (ns : List PlainNode). Keeps (typed_setting s) forest t (gives (map node ns) forest)) (sym (nothing_in_order forest)) (value_keeps s t t forest [] refl honest b)
order_of_atoms s forest t (node p ∷ xs) honest atoms b = absurd (cc (atoms.0.1))
order_of_atoms s forest t (atom a ∷ xs) honest atoms b =
    subst (λ (c : Bool). Keeps (typed_setting s) forest t (if c then wrong else gives (atom a ∷ xs) forest)) (sym (no_node_among xs atoms.1)) (value_keeps s t t forest (atom a ∷ xs) refl honest b)

pub order_keeps : OrderKeepsType
order_keeps s g (a ∷ []) t forest (xs ∷ []) e honest h = of_nodes (is_included s a nodes_type) refl e
  where
    of_nodes : (b : Bool) → is_included s a nodes_type ≡ b → (if b then has_type (times_of (prime_of a) (occurrence_of a)) else (if all_items is_atomic a then has_type a else has_none XPTY0018 None)) ≡ has_type t
        → Keeps (typed_setting s) forest t (put_in_order xs forest)
    of_nodes true i f =
        subst (λ (u : SequenceType). Keeps (typed_setting s) forest u (put_in_order xs forest)) (ruled (times_of (prime_of a) (occurrence_of a)) t f)
        (order_of_nodes s forest a xs honest (nodes_in_type s forest xs a g honest i h.0) h.0)
    of_nodes false i f =
        let r = tested (all_items is_atomic a) a t _ _ f in
        subst (λ (u : SequenceType). Keeps (typed_setting s) forest u (put_in_order xs forest)) r.1 (order_of_atoms s forest a xs honest (items_are_atoms s forest xs a r.0 h.0) h.0)
order_keeps s g (a ∷ []) t forest [] e honest h = absurd h
order_keeps s g (a ∷ []) t forest (xs ∷ ys ∷ values) e honest h = absurd h.1
order_keeps s g [] t forest values e honest h = absurd (cc)
order_keeps s g (a ∷ b ∷ ps) t forest values e honest h = absurd (cc)
