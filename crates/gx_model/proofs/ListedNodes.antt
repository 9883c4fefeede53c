-- The nodes of a forest are listed in document order, each that the forest has, and no other.
use Rattle.std.proofs.Common.{◌≡◌, ℕ, zero, suc, ◌+◌, ◌<◌, Bool, true, false, ◌&&◌, ◌||◌, nat_eq, nat_lt, List, [], ◌∷◌, ◌++◌, map, Option, None, Some, refl, sym, ap, ◌∙◌, arith, subst, if◌then◌else◌}
use Rattle.std.specs.Prelude.{is_some}
use Rattle.std.specs.List.{slice_get, list_any}
use Rattle.std.specs.Option.{option_map}
use Rattle.std.specs.Cmp.Lexicographic.{pointwise}
use Rattle.std.proofs.lemmas.List.Folds.{list_any-append}
use Rattle.std.proofs.lemmas.Bool.{lt-ltb}
use Rattle.gx_tree.specs.declared.attribute.Attribute.{Attribute}
use Rattle.gx_tree.specs.PlainTree.{PlainTree, PlainTrees, document, element, attribute, text, no_trees, a_tree}
use Rattle.gx_model.specs.Forest.{Forest, PlainNode, then_found, children_of, own_attributes, tree_at, attribute_at, node_in}
use Rattle.gx_model.specs.Location.{Location, along, root_attribute, in_child, attribute_locations, all_locations, child_locations, node_of_tree}
use Rattle.gx_model.specs.Axes.{same_position}
use Rattle.gx_model.specs.DocumentOrder.{path_comes_first, comes_before, nodes_from, same_node}
use Rattle.gx_model.specs.OrderLaws.{Every, Ascends, NodesAscend}
use Rattle.gx_model.proofs.LocationLemmas.{listed, all_are, nat_is_itself, nat_differs}

every_append : {A : Type 0} (P : A → Type 0) (xs ys : List A) → Every P xs → Every P ys → Every P (xs ++ ys)
every_append P [] ys h g = g
every_append P (x ∷ xs) ys h g = (h.0, every_append P xs ys h.1 g)

every_each : {A : Type 0} (P Q : A → Type 0) (xs : List A) → ((x : A) → P x → Q x) → Every P xs → Every Q xs
every_each P Q [] f h = tt
every_each P Q (x ∷ xs) f h = (f x h.0, every_each P Q xs f h.1)

every_of : {A : Type 0} (P : A → Type 0) (xs : List A) → ((x : A) → P x) → Every P xs
every_of P [] f = tt
every_of P (x ∷ xs) f = (f x, every_of P xs f)

every_map : {A B : Type 0} (P : B → Type 0) (g : A → B) (xs : List A) → Every (λ x. P (g x)) xs → Every P (map g xs)
every_map P g [] h = tt
every_map P g (x ∷ xs) h = (h.0, every_map P g xs h.1)

ascends_append : {A : Type 0} (before : A → A → Bool) (xs ys : List A) → Ascends before xs → Ascends before ys → Every (λ x. Every (λ y. before x y ≡ true) ys) xs → Ascends before (xs ++ ys)
ascends_append before [] ys h g e = g
ascends_append before (x ∷ xs) ys h g e = (every_append (λ y. before x y ≡ true) xs ys h.0 e.0, ascends_append before xs ys h.1 g e.1)

ascends_map : {A B : Type 0} (before : A → A → Bool) (next : B → B → Bool) (g : A → B) (xs : List A) → ((x y : A) → before x y ≡ true → next (g x) (g y) ≡ true) → Ascends before xs → Ascends next (map g xs)
ascends_map before next g [] f h = tt
ascends_map before next g (x ∷ xs) f h =
    (every_map (λ y. next (g x) y ≡ true) g xs (every_each (λ y. before x y ≡ true) (λ y. next (g x) (g y) ≡ true) xs (λ y b. f x y b) h.0), ascends_map before next g xs f h.1)

-- ---- the nodes ascend

abbrev first_of : Location → Location → Bool
first_of a b = path_comes_first a.path a.attribute b.path b.attribute

below_is : (m n : ℕ) (b : Bool) → m < n → (if nat_eq m n then b else nat_lt m n) ≡ true
below_is m n b l = ap (λ (c : Bool). if c then b else nat_lt m n) (nat_differs m n (λ e. absurd (omega (arith, e, l)))) ∙ lt-ltb m n l

same_is : (m : ℕ) (b : Bool) → (if nat_eq m m then b else nat_lt m m) ≡ b
same_is m b = ap (λ (c : Bool). if c then b else nat_lt m m) (nat_is_itself m)

attributes_later : (from : Location) (k : ℕ) (l : List Attribute) → ((n : ℕ) → k < suc n → first_of from (root_attribute n) ≡ true) → Every (λ c. first_of from c ≡ true) (attribute_locations k l)
attributes_later from k [] f = tt
attributes_later from k (a ∷ l) f = (f k (omega arith), attributes_later from (suc k) l (λ n b. f n (omega (arith, b))))

attributes_ascend : (k : ℕ) (l : List Attribute) → Ascends first_of (attribute_locations k l)
attributes_ascend k [] = tt
attributes_ascend k (a ∷ l) = (attributes_later (root_attribute k) (suc k) l (λ n b. lt-ltb k n (omega (arith, b))), attributes_ascend (suc k) l)

children_later : (from : Location) (k : ℕ) (ts : PlainTrees) → ((n : ℕ) (c : Location) → k < suc n → first_of from (in_child n c) ≡ true) → Every (λ c. first_of from c ≡ true) (child_locations k ts)
children_later from k no_trees f = tt
children_later from k (a_tree t ts) f =
    every_append (λ c. first_of from c ≡ true) (map (in_child k) (all_locations t)) (child_locations (suc k) ts)
    (every_map (λ c. first_of from c ≡ true) (in_child k) (all_locations t) (every_of (λ c. first_of from (in_child k c) ≡ true) (all_locations t) (λ c. f k c (omega arith))))
    (children_later from (suc k) ts (λ n c b. f n c (omega (arith, b))))

attributes_first : (k j : ℕ) (l : List Attribute) (ts : PlainTrees) → Every (λ a. Every (λ c. first_of a c ≡ true) (child_locations k ts)) (attribute_locations j l)
attributes_first k j [] ts = tt
attributes_first k j (a ∷ l) ts = (children_later (root_attribute j) k ts (λ n c b. refl), attributes_first k (suc j) l ts)

mutual
  tree_ascends : (t : PlainTree) → Ascends first_of (all_locations t)
  tree_ascends (document ts) = (children_later (along []) 0 ts (λ n c b. refl), trees_ascend 0 ts)
  tree_ascends (element name kind l ts) = (
    every_append (λ c. first_of (along []) c ≡ true) (attribute_locations 0 l) (child_locations 0 ts) (attributes_later (along []) 0 l (λ n b. refl)) (children_later (along []) 0 ts (λ n c b. refl)),
    ascends_append first_of (attribute_locations 0 l) (child_locations 0 ts) (attributes_ascend 0 l) (trees_ascend 0 ts) (attributes_first 0 0 l ts),
  )
  tree_ascends (attribute a) = (tt, tt)
  tree_ascends (text t) = (tt, tt)

  trees_ascend : (k : ℕ) (ts : PlainTrees) → Ascends first_of (child_locations k ts)
  trees_ascend k no_trees = tt
  trees_ascend k (a_tree t ts) =
      ascends_append first_of (map (in_child k) (all_locations t)) (child_locations (suc k) ts)
      (ascends_map first_of first_of (in_child k) (all_locations t) (λ x y h. same_is k (first_of x y) ∙ h) (tree_ascends t))
      (trees_ascend (suc k) ts)
      (every_map (λ x. Every (λ c. first_of x c ≡ true) (child_locations (suc k) ts)) (in_child k) (all_locations t)
      (every_of (λ x. Every (λ c. first_of (in_child k x) c ≡ true) (child_locations (suc k) ts)) (all_locations t)
      (λ x. children_later (in_child k x) (suc k) ts (λ n c b. below_is k n (first_of x c) (omega (arith, b))))))

trees_later : (from : PlainNode) (k : ℕ) (forest : Forest) → from.tree < k → Every (λ n. comes_before from n ≡ true) (nodes_from k forest)
trees_later from k [] l = tt
trees_later from k (t ∷ forest) l =
    every_append (λ n. comes_before from n ≡ true) (map (node_of_tree k) (all_locations t)) (nodes_from (suc k) forest)
    (every_map (λ n. comes_before from n ≡ true) (node_of_tree k) (all_locations t) (every_of (λ c. comes_before from (node_of_tree k c) ≡ true) (all_locations t)
    (λ c. below_is from.tree k (path_comes_first from.path from.attribute c.path c.attribute) l)))
    (trees_later from (suc k) forest (omega (arith, l)))

forest_ascends : (k : ℕ) (forest : Forest) → Ascends comes_before (nodes_from k forest)
forest_ascends k [] = tt
forest_ascends k (t ∷ forest) =
    ascends_append comes_before (map (node_of_tree k) (all_locations t)) (nodes_from (suc k) forest)
    (ascends_map first_of comes_before (node_of_tree k) (all_locations t) (λ x y h. same_is k (first_of x y) ∙ h) (tree_ascends t))
    (forest_ascends (suc k) forest)
    (every_map (λ x. Every (λ n. comes_before x n ≡ true) (nodes_from (suc k) forest)) (node_of_tree k) (all_locations t)
    (every_of (λ x. Every (λ n. comes_before (node_of_tree k x) n ≡ true) (nodes_from (suc k) forest)) (all_locations t) (λ x. trees_later (node_of_tree k x) (suc k) forest (omega arith))))

pub nodes_ascend : NodesAscend
nodes_ascend forest = forest_ascends 0 forest

-- ---- a node is listed where the forest has it

-- lists of what is made of numbered parts
abbrev numbered : {A B : Type 0} → (ℕ → A → List B) → ℕ → List A → List B
numbered make k [] = []
numbered make k (x ∷ xs) = make k x ++ numbered make (suc k) xs

abbrev hits : {A : Type 0} → (A → Bool) → Option A → Bool
hits hit None = false
hits hit (Some x) = hit x

or_false : (b : Bool) → (b || false) ≡ b
or_false true = refl
or_false false = refl

none_later : {A B : Type 0} (f : B → Bool) (make : ℕ → A → List B) (m : ℕ) → ((k : ℕ) (x : A) → (k ≡ m → ⊥) → list_any f (make k x) ≡ false) → (k : ℕ) (xs : List A) → m < k → list_any f (numbered make k xs) ≡ false
none_later f make m other k [] l = refl
none_later f make m other k (x ∷ xs) l =
    list_any-append f (make k x) (numbered make (suc k) xs)
    ∙ ap (λ (b : Bool). b || list_any f (numbered make (suc k) xs)) (other k x (λ e. absurd (omega (arith, e, l))))
    ∙ none_later f make m other (suc k) xs (omega (arith, l))

hit_in : {A B : Type 0} (f : B → Bool) (make : ℕ → A → List B) (hit : A → Bool) (m : ℕ) → ((x : A) → list_any f (make m x) ≡ hit x)
    → ((k : ℕ) (x : A) → (k ≡ m → ⊥) → list_any f (make k x) ≡ false) → (k n : ℕ) (xs : List A) → m ≡ k + n → list_any f (numbered make k xs) ≡ hits hit (slice_get xs n)
hit_in f make hit m same other k n [] e = refl
hit_in f make hit m same other k zero (x ∷ xs) e =
    let here : k ≡ m = omega (arith, e) in
    list_any-append f (make k x) (numbered make (suc k) xs)
    ∙ ap (λ (b : Bool). list_any f (make k x) || b) (none_later f make m other (suc k) xs (omega (arith, e)))
    ∙ or_false (list_any f (make k x))
    ∙ subst (λ (j : ℕ). list_any f (make j x) ≡ hit x) (sym here) (same x)
hit_in f make hit m same other k (suc n) (x ∷ xs) e =
    list_any-append f (make k x) (numbered make (suc k) xs)
    ∙ ap (λ (b : Bool). b || list_any f (numbered make (suc k) xs)) (other k x (λ g. absurd (omega (arith, e, g))))
    ∙ hit_in f make hit m same other (suc k) n xs (omega (arith, e))

pub any_mapped : {A B : Type 0} (f : B → Bool) (g : A → B) (xs : List A) → list_any f (map g xs) ≡ list_any (λ x. f (g x)) xs
any_mapped f g [] = refl
any_mapped f g (x ∷ xs) = ap (λ (b : Bool). f (g x) || b) (any_mapped f g xs)

pub any_agrees : {A : Type 0} (f g : A → Bool) → ((x : A) → f x ≡ g x) → (xs : List A) → list_any f xs ≡ list_any g xs
any_agrees f g h [] = refl
any_agrees f g h (x ∷ xs) = ap (λ (b : Bool). b || list_any f xs) (h x) ∙ ap (λ (b : Bool). g x || b) (any_agrees f g h xs)

pub any_never : {A : Type 0} (f : A → Bool) → ((x : A) → f x ≡ false) → (xs : List A) → list_any f xs ≡ false
any_never f h [] = refl
any_never f h (x ∷ xs) = ap (λ (b : Bool). b || list_any f xs) (h x) ∙ any_never f h xs

abbrev pub same_location : List ℕ → Option ℕ → Location → Bool
same_location path place to = pointwise nat_eq path to.path && same_position place to.attribute

abbrev child_part : ℕ → PlainTree → List Location
child_part k u = map (in_child k) (all_locations u)

abbrev attribute_part : ℕ → Attribute → List Location
attribute_part k a = root_attribute k ∷ []

abbrev tree_part : ℕ → PlainTree → List PlainNode
tree_part k t = map (node_of_tree k) (all_locations t)

children_numbered : (k : ℕ) (us : List PlainTree) → listed k us ≡ numbered child_part k us
children_numbered k [] = refl
children_numbered k (u ∷ us) = ap (λ ls. child_part k u ++ ls) (children_numbered (suc k) us)

attributes_numbered : (k : ℕ) (l : List Attribute) → attribute_locations k l ≡ numbered attribute_part k l
attributes_numbered k [] = refl
attributes_numbered k (a ∷ l) = ap (λ ls. root_attribute k ∷ ls) (attributes_numbered (suc k) l)

trees_numbered : (k : ℕ) (forest : Forest) → nodes_from k forest ≡ numbered tree_part k forest
trees_numbered k [] = refl
trees_numbered k (t ∷ forest) = ap (λ ns. tree_part k t ++ ns) (trees_numbered (suc k) forest)

-- in the attributes of a node
an_attribute : (i : ℕ) (l : List Attribute) → list_any (same_location [] (Some i)) (attribute_locations 0 l) ≡ is_some (option_map attribute (slice_get l i))
an_attribute i l =
    ap (list_any (same_location [] (Some i))) (attributes_numbered 0 l)
    ∙ hit_in (same_location [] (Some i)) attribute_part (λ a. true) i (λ a. ap (λ (b : Bool). b || false) (nat_is_itself i)) (λ k a other. ap (λ (b : Bool). b || false) (nat_differs i k (λ e. other (sym e)))) 0 i l (omega arith)
    ∙ seen (slice_get l i)
  where
    seen : (found : Option Attribute) → hits (λ a. true) found ≡ is_some (option_map attribute found)
    seen None = refl
    seen (Some a) = refl

never_attribute : (p : ℕ) (path : List ℕ) (place : Option ℕ) (k : ℕ) (l : List Attribute) → list_any (same_location (p ∷ path) place) (attribute_locations k l) ≡ false
never_attribute p path place k [] = refl
never_attribute p path place k (a ∷ l) = never_attribute p path place (suc k) l

never_child : (place : Option ℕ) (k : ℕ) (us : List PlainTree) → list_any (same_location [] place) (listed k us) ≡ false
never_child place k [] = refl
never_child place k (u ∷ us) =
    list_any-append (same_location [] place) (child_part k u) (listed (suc k) us)
    ∙ ap (λ (b : Bool). b || list_any (same_location [] place) (listed (suc k) us)) (any_mapped (same_location [] place) (in_child k) (all_locations u) ∙ any_never (λ to. same_location [] place (in_child k to)) (λ to. refl) (all_locations u))
    ∙ never_child place (suc k) us

child_same : (p : ℕ) (path : List ℕ) (place : Option ℕ) (to : Location) → same_location (p ∷ path) place (in_child p to) ≡ same_location path place to
child_same p path place to = ap (λ (b : Bool). (b && pointwise nat_eq path to.path) && same_position place to.attribute) (nat_is_itself p)

child_other : (p k : ℕ) (path : List ℕ) (place : Option ℕ) (to : Location) → (k ≡ p → ⊥) → same_location (p ∷ path) place (in_child k to) ≡ false
child_other p k path place to other = ap (λ (b : Bool). (b && pointwise nat_eq path to.path) && same_position place to.attribute) (nat_differs p k (λ e. other (sym e)))

then_seen : (found : Option PlainTree) (path : List ℕ) (place : Option ℕ)
    → hits (λ u. is_some (then_found (tree_at u path) (attribute_at place))) found ≡ is_some (then_found (then_found found (λ u. tree_at u path)) (attribute_at place))
then_seen None path place = refl
then_seen (Some u) path place = refl

pub in_tree : (path : List ℕ) (place : Option ℕ) (t : PlainTree) → list_any (same_location path place) (all_locations t) ≡ is_some (then_found (tree_at t path) (attribute_at place))
in_tree [] None t = ap (list_any (same_location [] None)) (all_are t)
in_tree [] (Some i) t =
    ap (list_any (same_location [] (Some i))) (all_are t)
    ∙ list_any-append (same_location [] (Some i)) (attribute_locations 0 (own_attributes t)) (listed 0 (children_of t))
    ∙ ap (λ (b : Bool). list_any (same_location [] (Some i)) (attribute_locations 0 (own_attributes t)) || b) (never_child (Some i) 0 (children_of t))
    ∙ or_false (list_any (same_location [] (Some i)) (attribute_locations 0 (own_attributes t)))
    ∙ an_attribute i (own_attributes t)
in_tree (p ∷ path) place t =
    ap (list_any (same_location (p ∷ path) place)) (all_are t)
    ∙ list_any-append (same_location (p ∷ path) place) (attribute_locations 0 (own_attributes t)) (listed 0 (children_of t))
    ∙ ap (λ (b : Bool). b || list_any (same_location (p ∷ path) place) (listed 0 (children_of t))) (never_attribute p path place 0 (own_attributes t))
    ∙ ap (list_any (same_location (p ∷ path) place)) (children_numbered 0 (children_of t))
    ∙ hit_in (same_location (p ∷ path) place) child_part (λ u. is_some (then_found (tree_at u path) (attribute_at place))) p
    (λ u. any_mapped (same_location (p ∷ path) place) (in_child p) (all_locations u) ∙ any_agrees (λ to. same_location (p ∷ path) place (in_child p to)) (same_location path place) (child_same p path place) (all_locations u) ∙ in_tree path place u)
    (λ k u other. any_mapped (same_location (p ∷ path) place) (in_child k) (all_locations u) ∙ any_never (λ to. same_location (p ∷ path) place (in_child k to)) (λ to. child_other p k path place to other) (all_locations u))
    0 p (children_of t) (omega arith)
    ∙ then_seen (slice_get (children_of t) p) path place

node_here : (n : PlainNode) (to : Location) → same_node n (node_of_tree n.tree to) ≡ same_location n.path n.attribute to
node_here n to = ap (λ (b : Bool). (b && pointwise nat_eq n.path to.path) && same_position n.attribute to.attribute) (nat_is_itself n.tree)

node_elsewhere : (n : PlainNode) (k : ℕ) (to : Location) → (k ≡ n.tree → ⊥) → same_node n (node_of_tree k to) ≡ false
node_elsewhere n k to other = ap (λ (b : Bool). (b && pointwise nat_eq n.path to.path) && same_position n.attribute to.attribute) (nat_differs n.tree k (λ e. other (sym e)))

in_forest : (n : PlainNode) (found : Option PlainTree) → hits (λ t. is_some (then_found (tree_at t n.path) (attribute_at n.attribute))) found ≡ is_some (then_found found (λ t. then_found (tree_at t n.path) (attribute_at n.attribute)))
in_forest n None = refl
in_forest n (Some t) = refl

pub listed_where_there : (forest : Forest) (n : PlainNode) → list_any (same_node n) (nodes_from 0 forest) ≡ is_some (node_in forest n)
listed_where_there forest n =
    ap (list_any (same_node n)) (trees_numbered 0 forest)
    ∙ hit_in (same_node n) tree_part (λ t. is_some (then_found (tree_at t n.path) (attribute_at n.attribute))) n.tree
    (λ t. any_mapped (same_node n) (node_of_tree n.tree) (all_locations t) ∙ any_agrees (λ to. same_node n (node_of_tree n.tree to)) (same_location n.path n.attribute) (node_here n) (all_locations t) ∙ in_tree n.path n.attribute t)
    (λ k t other. any_mapped (same_node n) (node_of_tree k) (all_locations t) ∙ any_never (λ to. same_node n (node_of_tree k to)) (λ to. node_elsewhere n k to other) (all_locations t))
    0 n.tree forest (omega arith)
    ∙ in_forest n (slice_get forest n.tree)
