-- A search through a tree finds what the filter over all locations finds.
use Rattle.std.proofs.Common.{◌≡◌, ℕ, suc, ◌+◌, ◌≤◌, Bool, true, false, ◌&&◌, List, [], ◌∷◌, ◌++◌, map, filter, Option, Some, refl, sym, ap, ◌∙◌, arith, cond, subst, append_assoc}
use Rattle.std.specs.List.{slice_get}
use Rattle.std.specs.Option.{option_map}
use Rattle.std.proofs.lemmas.List.Elements.{filter-append, filter_agree}
use Rattle.gx_tree.specs.declared.attribute.Attribute.{Attribute}
use Rattle.gx_tree.specs.PlainTree.{PlainTree, PlainTrees, document, element, attribute, text, no_trees, a_tree, trees_of, list_of, tree_size, trees_size}
use Rattle.gx_model.specs.Forest.{then_found, children_of, own_attributes, tree_at, attribute_at}
use Rattle.gx_model.specs.Location.{Location, along, root_attribute, in_child, attribute_locations, all_locations, located}
use Rattle.gx_model.specs.Axes.{passes_there, locations_on}
use Rattle.gx_model.specs.Stepping.{kept_if, attribute_along}
use Rattle.gx_model.specs.Search.{sought_at, sought_attributes, sought_in, sought_among}
use Rattle.gx_model.proofs.ListLemmas.{filter_mapped, map_appended, map_after, map_agrees, append_none}
use Rattle.gx_model.proofs.LocationLemmas.{listed, all_are, under}

-- the trees of a list and back
trees_back : (ts : PlainTrees) → trees_of (list_of ts) ≡ ts
trees_back no_trees = refl
trees_back (a_tree t ts) = ap (a_tree t) (trees_back ts)

-- a node, its attributes, and what its children hold
pub sought_parts : (leads : Location → Bool) (test : PlainTree → Bool) (path : List ℕ) (t : PlainTree)
    → sought_in leads test path t ≡ sought_at leads test (along path) t ++ (sought_attributes leads test path 0 (own_attributes t) ++ sought_among leads test path 0 (trees_of (children_of t)))
sought_parts leads test path (document ts) = ap (λ us. sought_at leads test (along path) (document ts) ++ ([] ++ sought_among leads test path 0 us)) (sym (trees_back ts))
sought_parts leads test path (element n k l ts) =
    ap (λ us. sought_at leads test (along path) (element n k l ts) ++ (sought_attributes leads test path 0 l ++ sought_among leads test path 0 us)) (sym (trees_back ts))
sought_parts leads test path (attribute a) = refl
sought_parts leads test path (text x) = refl

pub children_size : (t : PlainTree) → 1 + trees_size (trees_of (children_of t)) ≤ tree_size t
children_size (document ts) = omega (arith, ap trees_size (trees_back ts))
children_size (element n k l ts) = omega (arith, ap trees_size (trees_back ts))
children_size (attribute a) = omega arith
children_size (text x) = omega arith

-- what is sought under a path is what passes of the locations there

abbrev passes_under : (Location → Bool) → (PlainTree → Bool) → List ℕ → (Location → Option PlainTree) → Location → Bool
passes_under leads test path tree to = leads (under path to) && passes_there test (tree to)

one_more : (b : Bool) (g : Location → Location) (x : Location) (ls : List Location) → map g (cond b (x ∷ ls) ls) ≡ kept_if b (g x) ++ map g ls
one_more true g x ls = refl
one_more false g x ls = refl

attributes_sought : (leads : Location → Bool) (test : PlainTree → Bool) (path : List ℕ) (tree : Location → Option PlainTree) (k : ℕ) (l : List Attribute)
    → ((i : ℕ) (a : Attribute) → slice_get l i ≡ Some a → tree (root_attribute (k + i)) ≡ Some (attribute a))
    → map (under path) (filter (passes_under leads test path tree) (attribute_locations k l)) ≡ sought_attributes leads test path k l
attributes_sought leads test path tree k [] h = refl
attributes_sought leads test path tree k (a ∷ l) h =
    let f : Location → Bool = passes_under leads test path tree in
    let here : tree (root_attribute k) ≡ Some (attribute a) = subst (λ n. tree (root_attribute n) ≡ Some (attribute a)) (omega arith) (h 0 a refl) in
    one_more (f (root_attribute k)) (under path) (root_attribute k) (filter f (attribute_locations (suc k) l))
    ∙ ap (λ ls. kept_if (f (root_attribute k)) (under path (root_attribute k)) ++ ls)
    (attributes_sought leads test path tree (suc k) l (λ i b e. subst (λ n. tree (root_attribute n) ≡ Some (attribute b)) (omega arith) (h (suc i) b e)))
    ∙ ap (λ (q : List ℕ). kept_if (leads (attribute_along q k) && passes_there test (tree (root_attribute k))) (attribute_along q k) ++ sought_attributes leads test path (suc k) l) (append_none path)
    ∙ ap (λ (o : Option PlainTree). kept_if (leads (attribute_along path k) && passes_there test o) (attribute_along path k) ++ sought_attributes leads test path (suc k) l) here

abbrev IsSought : (Location → Bool) → (PlainTree → Bool) → List ℕ → PlainTree → Type 0
IsSought leads test path t = map (under path) (filter (passes_under leads test path (located t)) (all_locations t)) ≡ sought_in leads test path t

-- a node with its attributes and children
parts_sought : (leads : Location → Bool) (test : PlainTree → Bool) (path : List ℕ) (t : PlainTree)
    → map (under path) (filter (passes_under leads test path (located t)) (listed 0 (children_of t))) ≡ sought_among leads test path 0 (trees_of (children_of t))
    → IsSought leads test path t
parts_sought leads test path t children =
    let f : Location → Bool = passes_under leads test path (located t) in
    let A : List Location = attribute_locations 0 (own_attributes t) in
    let C : List Location = listed 0 (children_of t) in
    ap (λ ls. map (under path) (filter f ls)) (all_are t)
    ∙ one_more (f (along [])) (under path) (along []) (filter f (A ++ C))
    ∙ ap (λ (q : List ℕ). kept_if (leads (along q) && test t) (along q) ++ map (under path) (filter f (A ++ C))) (append_none path)
    ∙ ap (λ ls. sought_at leads test (along path) t ++ ls) (
    ap (map (under path)) (filter-append f A C)
    ∙ map_appended (under path) (filter f A) (filter f C)
    ∙ ap (λ ls. ls ++ map (under path) (filter f C)) (attributes_sought leads test path (located t) 0 (own_attributes t) (λ i a e. ap (option_map attribute) (ap (slice_get (own_attributes t)) (omega arith) ∙ e)))
    ∙ ap (λ ls. sought_attributes leads test path 0 (own_attributes t) ++ ls) children
    )
    ∙ sym (sought_parts leads test path t)

-- one child
child_sought : (leads : Location → Bool) (test : PlainTree → Bool) (path : List ℕ) (tree : Location → Option PlainTree) (k : ℕ) (u : PlainTree)
    → ((to : Location) → tree (in_child k to) ≡ located u to) → IsSought leads test (path ++ k ∷ []) u
    → map (under path) (filter (passes_under leads test path tree) (map (in_child k) (all_locations u))) ≡ sought_in leads test (path ++ k ∷ []) u
child_sought leads test path tree k u h below =
    let f : Location → Bool = passes_under leads test path tree in
    let longer : (to : Location) → under path (in_child k to) ≡ under (path ++ k ∷ []) to = λ to. ap (λ (q : List ℕ). record { path = q; attribute = to.attribute }) (sym (append_assoc path (k ∷ []) to.path)) in
    ap (map (under path)) (filter_mapped f (in_child k) (all_locations u))
    ∙ map_after (under path) (in_child k) (filter (λ to. f (in_child k to)) (all_locations u))
    ∙ ap (map (λ to. under path (in_child k to)))
    (filter_agree (λ to. f (in_child k to)) (passes_under leads test (path ++ k ∷ []) (located u))
    (λ to. ap (λ (l : Location). leads l && passes_there test (tree (in_child k to))) (longer to)
    ∙ ap (λ (o : Option PlainTree). leads (under (path ++ k ∷ []) to) && passes_there test o) (h to))
    (all_locations u))
    ∙ map_agrees (λ to. under path (in_child k to)) (under (path ++ k ∷ [])) longer (filter (passes_under leads test (path ++ k ∷ []) (located u)) (all_locations u))
    ∙ below

abbrev AreSought : (Location → Bool) → (PlainTree → Bool) → List ℕ → PlainTrees → Type 0
AreSought leads test path ts =
    (tree : Location → Option PlainTree) (k : ℕ)
    → ((i : ℕ) (u : PlainTree) → slice_get (list_of ts) i ≡ Some u → (to : Location) → tree (in_child (k + i) to) ≡ located u to)
    → map (under path) (filter (passes_under leads test path tree) (listed k (list_of ts))) ≡ sought_among leads test path k ts

located_in : (t : PlainTree) (us : List PlainTree) → children_of t ≡ us → (i : ℕ) (u : PlainTree) → slice_get us i ≡ Some u → (to : Location) → located t (in_child (0 + i) to) ≡ located u to
located_in t us same i u e to =
    ap (λ (o : Option PlainTree). then_found (then_found o (λ c. tree_at c to.path)) (attribute_at to.attribute)) (ap (λ (vs : List PlainTree). slice_get vs (0 + i)) same ∙ ap (slice_get us) (omega arith) ∙ e)

back_again : (leads : Location → Bool) (test : PlainTree → Bool) (path : List ℕ) (ts : PlainTrees) → sought_among leads test path 0 ts ≡ sought_among leads test path 0 (trees_of (list_of ts))
back_again leads test path ts = ap (sought_among leads test path 0) (sym (trees_back ts))

mutual
  sought_under : (leads : Location → Bool) (test : PlainTree → Bool) (path : List ℕ) (t : PlainTree) → IsSought leads test path t
  sought_under leads test path (document ts) =
      parts_sought leads test path (document ts) (sought_below leads test path ts (located (document ts)) 0 (located_in (document ts) (list_of ts) refl) ∙ back_again leads test path ts)
  sought_under leads test path (element n k l ts) =
      parts_sought leads test path (element n k l ts) (sought_below leads test path ts (located (element n k l ts)) 0 (located_in (element n k l ts) (list_of ts) refl) ∙ back_again leads test path ts)
  sought_under leads test path (attribute a) = parts_sought leads test path (attribute a) refl
  sought_under leads test path (text x) = parts_sought leads test path (text x) refl

  sought_below : (leads : Location → Bool) (test : PlainTree → Bool) (path : List ℕ) (ts : PlainTrees) → AreSought leads test path ts
  sought_below leads test path no_trees tree k h = refl
  sought_below leads test path (a_tree t ts) tree k h =
      let f : Location → Bool = passes_under leads test path tree in
      ap (map (under path)) (filter-append f (map (in_child k) (all_locations t)) (listed (suc k) (list_of ts)))
      ∙ map_appended (under path) (filter f (map (in_child k) (all_locations t))) (filter f (listed (suc k) (list_of ts)))
      ∙ ap (λ ls. ls ++ map (under path) (filter f (listed (suc k) (list_of ts))))
      (child_sought leads test path tree k t (λ to. subst (λ (n : ℕ). tree (in_child n to) ≡ located t to) (omega arith) (h 0 t refl to)) (sought_under leads test (path ++ k ∷ []) t))
      ∙ ap (λ ls. sought_in leads test (path ++ k ∷ []) t ++ ls)
      (sought_below leads test path ts tree (suc k) (λ i u e to. subst (λ (n : ℕ). tree (in_child n to) ≡ located u to) (omega arith) (h (suc i) u e to)))

pub search_is_filter : (leads : Location → Bool) (test : PlainTree → Bool) (t : PlainTree) → sought_in leads test [] t ≡ locations_on leads test t
search_is_filter leads test t = sym (sought_under leads test [] t) ∙ as_they_are (filter (passes_under leads test [] (located t)) (all_locations t))
  where
    as_they_are : (ls : List Location) → map (under []) ls ≡ ls
    as_they_are [] = refl
    as_they_are (l ∷ ls) = ap (λ ks. l ∷ ks) (as_they_are ls)

-- what is found at a node, behind what was found
pub search_joined : {A : Type 0} → (leads : Location → Bool) (test : PlainTree → Bool) (path : List ℕ) (t : PlainTree) (N : Location → A) (was first second last : List A)
    (sought : Bool) (list : List Attribute) (trees : List PlainTree)
    → sought ≡ (leads (along path) && test t) → list ≡ own_attributes t → trees ≡ children_of t
    → first ≡ was ++ map N (kept_if sought (along path))
    → second ≡ first ++ map N (sought_attributes leads test path 0 list)
    → last ≡ second ++ map N (sought_among leads test path 0 (trees_of trees))
    → last ≡ was ++ map N (sought_in leads test path t)
search_joined leads test path t N was first second last sought list trees s l u a b c =
    let S : List Location = sought_at leads test (along path) t in
    let L : List Location = sought_attributes leads test path 0 (own_attributes t) in
    let U : List Location = sought_among leads test path 0 (trees_of (children_of t)) in
    c
    ∙ ap (λ (xs : List PlainTree). second ++ map N (sought_among leads test path 0 (trees_of xs))) u
    ∙ ap (λ xs. xs ++ map N U) (b ∙ ap (λ (xs : List Attribute). first ++ map N (sought_attributes leads test path 0 xs)) l)
    ∙ ap (λ xs. (xs ++ map N L) ++ map N U) (a ∙ ap (λ (x : Bool). was ++ map N (kept_if x (along path))) s)
    ∙ append_assoc (was ++ map N S) (map N L) (map N U)
    ∙ append_assoc was (map N S) (map N L ++ map N U)
    ∙ ap (λ xs. was ++ xs) (sym (ap (map N) (sought_parts leads test path t) ∙ map_appended N S (L ++ U) ∙ ap (λ xs. map N S ++ xs) (map_appended N L U)))
