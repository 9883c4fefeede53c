-- All locations of a tree, filtered by tests that look at the way.
use Rattle.std.proofs.Common.{◌≡◌, ℕ, zero, suc, ◌+◌, ◌<◌, Bool, true, false, ◌&&◌, nat_eq, List, [], ◌∷◌, ◌++◌, map, filter, Option, None, Some, refl, sym, ap, ◌∙◌, arith, cond, if◌then◌else◌, eq-eqb}
use Rattle.std.proofs.lemmas.Bool.{eqb-true}
use Rattle.std.specs.List.{slice_get}
use Rattle.std.proofs.lemmas.List.Elements.{filter-append, filter_agree}
use Rattle.gx_tree.specs.declared.attribute.Attribute.{Attribute}
use Rattle.gx_tree.specs.PlainTree.{PlainTree, PlainTrees, document, element, attribute, text, no_trees, a_tree, list_of}
use Rattle.gx_model.specs.Forest.{then_found, children_of, own_attributes, tree_at, attribute_at}
use Rattle.gx_model.specs.Location.{Location, along, root_attribute, in_child, attribute_locations, all_locations, child_locations, located}
use Rattle.gx_model.specs.Axes.{way_down, on_way, leads_down, passes_there, locations_on}
use Rattle.gx_model.specs.Stepping.{kept_if}
use Rattle.gx_model.proofs.ListLemmas.{nothing_passes, filter_mapped, append_none, map_after}

-- the locations in children that are numbered from there on
abbrev pub listed : ℕ → List PlainTree → List Location
listed k [] = []
listed k (u ∷ us) = map (in_child k) (all_locations u) ++ listed (suc k) us

pub listed_is : (k : ℕ) (ts : PlainTrees) → child_locations k ts ≡ listed k (list_of ts)
listed_is k no_trees = refl
listed_is k (a_tree t ts) = ap (λ ls. map (in_child k) (all_locations t) ++ ls) (listed_is (suc k) ts)

pub all_are : (t : PlainTree) → all_locations t ≡ along [] ∷ (attribute_locations 0 (own_attributes t) ++ listed 0 (children_of t))
all_are (document ts) = ap (λ ls. along [] ∷ ls) (listed_is 0 ts)
all_are (element n k l ts) = ap (λ ls. along [] ∷ (attribute_locations 0 l ++ ls)) (listed_is 0 ts)
all_are (attribute a) = refl
all_are (text x) = refl

-- tests that pass no attribute, or nothing in a child

pub no_attribute : (f : Location → Bool) → ((i : ℕ) → f (root_attribute i) ≡ false) → (k : ℕ) (l : List Attribute) → filter f (attribute_locations k l) ≡ []
no_attribute f h k [] = refl
no_attribute f h k (a ∷ l) = rw (h k) (no_attribute f h (suc k) l)

nothing_in : (f : Location → Bool) (k : ℕ) (u : PlainTree) → ((to : Location) → f (in_child k to) ≡ false) → filter f (map (in_child k) (all_locations u)) ≡ []
nothing_in f k u h = filter_mapped f (in_child k) (all_locations u) ∙ ap (map (in_child k)) (nothing_passes (λ to. f (in_child k to)) h (all_locations u))

pub nothing_behind : (f : Location → Bool) (k : ℕ) (us : List PlainTree) → ((j : ℕ) (to : Location) → k < suc j → f (in_child j to) ≡ false) → filter f (listed k us) ≡ []
nothing_behind f k [] h = refl
nothing_behind f k (u ∷ us) h =
    filter-append f (map (in_child k) (all_locations u)) (listed (suc k) us)
    ∙ ap (λ ls. ls ++ filter f (listed (suc k) us)) (nothing_in f k u (λ to. h k to (omega arith)))
    ∙ nothing_behind f (suc k) us (λ j to below. h j to (omega arith))

-- a test that passes nothing but in one child

abbrev pub in_that_child : (f : Location → Bool) → ℕ → Option PlainTree → List Location
in_that_child f m None = []
in_that_child f m (Some u) = map (in_child m) (filter (λ to. f (in_child m to)) (all_locations u))

pub only_child : (f : Location → Bool) (us : List PlainTree) (k n m : ℕ) → m ≡ k + n → ((j : ℕ) (to : Location) → (j ≡ m → ⊥) → f (in_child j to) ≡ false)
    → filter f (listed k us) ≡ in_that_child f m (slice_get us n)
only_child f [] k n m e h = refl
only_child f (u ∷ us) k zero m e h =
    filter-append f (map (in_child k) (all_locations u)) (listed (suc k) us)
    ∙ ap (λ ls. filter f (map (in_child k) (all_locations u)) ++ ls) (nothing_behind f (suc k) us (λ j to below. h j to (λ same. absurd (omega arith))))
    ∙ append_none (filter f (map (in_child k) (all_locations u)))
    ∙ filter_mapped f (in_child k) (all_locations u)
    ∙ (let same : k ≡ m = omega arith in ap (λ j. map (in_child j) (filter (λ to. f (in_child j to)) (all_locations u))) same)
only_child f (u ∷ us) k (suc n) m e h =
    filter-append f (map (in_child k) (all_locations u)) (listed (suc k) us)
    ∙ ap (λ ls. ls ++ filter f (listed (suc k) us)) (nothing_in f k u (λ to. h k to (λ same. absurd (omega arith))))
    ∙ only_child f us (suc k) n m (omega arith) h

-- a test that passes the root alone
pub only_root : (f : Location → Bool) (t : PlainTree) → ((i : ℕ) → f (root_attribute i) ≡ false) → ((j : ℕ) (to : Location) → f (in_child j to) ≡ false)
    → filter f (all_locations t) ≡ kept_if (f (along [])) (along [])
only_root f t no_attributes no_children =
    ap (filter f) (all_are t)
    ∙ ap (λ ls. cond (f (along [])) (along [] ∷ ls) ls) (
    filter-append f (attribute_locations 0 (own_attributes t)) (listed 0 (children_of t))
    ∙ ap (λ ls. ls ++ filter f (listed 0 (children_of t))) (no_attribute f no_attributes 0 (own_attributes t))
    ∙ nothing_behind f 0 (children_of t) (λ j to below. no_children j to)
    )

-- a test that looks at what lies down a path looks at what the path leads to

abbrev pub under : List ℕ → Location → Location
under path to = record { path = path ++ to.path; attribute = to.attribute }

abbrev pub under_found : List ℕ → Option PlainTree → (PlainTree → List Location) → List Location
under_found path None chosen = []
under_found path (Some u) chosen = map (under path) (chosen u)

under_nothing : (ls : List Location) → ls ≡ map (under []) ls
under_nothing [] = refl
under_nothing (l ∷ ls) = ap (λ ks. l ∷ ks) (under_nothing ls)

under_child : (n : ℕ) (path : List ℕ) (found : Option PlainTree) (chosen : PlainTree → List Location)
    → map (in_child n) (under_found path found chosen) ≡ under_found (n ∷ path) found chosen
under_child n path None chosen = refl
under_child n path (Some u) chosen = map_after (in_child n) (under path) (chosen u)

pub nat_is_itself : (n : ℕ) → nat_eq n n ≡ true
nat_is_itself n = eq-eqb n n refl

differs_if : (m n : ℕ) → (m ≡ n → ⊥) → (b : Bool) → nat_eq m n ≡ b → nat_eq m n ≡ false
differs_if m n h true e = absurd (h (eqb-true m n e))
differs_if m n h false e = e

pub nat_differs : (m n : ℕ) → (m ≡ n → ⊥) → nat_eq m n ≡ false
nat_differs m n h = differs_if m n h (nat_eq m n) refl

abbrev found_in : (w : List ℕ → Option ℕ → Bool) (p : PlainTree → Bool) (n : ℕ) (path : List ℕ) (t : PlainTree) → Location → Bool
found_in w p n path t to = leads_down w (n ∷ path) to && passes_there p (located t to)

abbrev pub IsLocal : (w : List ℕ → Option ℕ → Bool) (p : PlainTree → Bool) (path : List ℕ) (t : PlainTree) → Type 0
IsLocal w p path t = locations_on (leads_down w path) p t ≡ under_found path (tree_at t path) (locations_on (leads_down w []) p)

-- behind the child on the way
behind_child : (w : List ℕ → Option ℕ → Bool) (p : PlainTree → Bool) (n : ℕ) (path : List ℕ) (t : PlainTree) → ((u : PlainTree) → IsLocal w p path u)
    → (found : Option PlainTree) → slice_get (children_of t) n ≡ found
    → in_that_child (found_in w p n path t) n found ≡ under_found (n ∷ path) (then_found found (λ u. tree_at u path)) (locations_on (leads_down w []) p)
behind_child w p n path t local None e = refl
behind_child w p n path t local (Some u) e =
    ap (map (in_child n)) (
    filter_agree (λ to. found_in w p n path t (in_child n to)) (λ to. leads_down w path to && passes_there p (located u to))
    (λ to.
    ap (λ (b : Bool). on_way (λ way. w way to.attribute) (if b then way_down path to.path else None) && passes_there p (located t (in_child n to))) (nat_is_itself n)
    ∙ ap (λ (o : Option PlainTree). leads_down w path to && passes_there p (then_found (then_found o (λ c. tree_at c to.path)) (attribute_at to.attribute))) e)
    (all_locations u)
    ∙ local u
    )
    ∙ under_child n path (tree_at u path) (locations_on (leads_down w []) p)

pub down_is_local : (w : List ℕ → Option ℕ → Bool) (p : PlainTree → Bool) (path : List ℕ) (t : PlainTree) → IsLocal w p path t
down_is_local w p [] t = under_nothing (locations_on (leads_down w []) p t)
down_is_local w p (n ∷ path) t =
    let f : Location → Bool = found_in w p n path t in
    ap (filter f) (all_are t)
    ∙ filter-append f (attribute_locations 0 (own_attributes t)) (listed 0 (children_of t))
    ∙ ap (λ ls. ls ++ filter f (listed 0 (children_of t))) (no_attribute f (λ i. refl) 0 (own_attributes t))
    ∙ only_child f (children_of t) 0 n n (omega arith)
    (λ j to other. ap (λ (b : Bool). on_way (λ way. w way to.attribute) (if b then way_down path to.path else None) && passes_there p (located t (in_child j to))) (nat_differs n j (λ same. other (sym same))))
    ∙ behind_child w p n path t (down_is_local w p path) (slice_get (children_of t) n) refl
