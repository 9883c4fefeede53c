-- A step gives its nodes in document order.
use Rattle.std.proofs.Common.{◌≡◌, ℕ, zero, suc, ◌+◌, arith, Bool, true, false, ◌&&◌, cond, List, [], ◌∷◌}
use Rattle.std.proofs.Common.{◌++◌, map, filter, Option, None, Some, is_some, refl, sym, ◌∙◌, ap, subst}
use Rattle.std.specs.List.{slice_get}
use Rattle.std.proofs.lemmas.Bool.{and_parts}
use Rattle.gx_types.specs.declared.step.Axis.{Axis}
use Rattle.gx_types.specs.declared.step.Test.{Test}
use Rattle.gx_types.specs.SchemaSet.{SchemaSet}
use Rattle.gx_tree.specs.PlainTree.{PlainTree}
use Rattle.gx_model.specs.Axes.{leads_to, passes, passes_there, locations_on, nodes_in_tree, on_axis}
use Rattle.gx_model.specs.DocumentOrder.{comes_before, nodes_from, in_document_order}
use Rattle.gx_model.specs.Forest.{Forest, PlainNode, node_in, then_found}
use Rattle.gx_model.specs.Item.{Items, atom, node}
use Rattle.gx_model.specs.Location.{Location, all_locations, located, location_of, node_of_tree}
use Rattle.gx_model.specs.OrderLaws.{Ascends, Every}
use Rattle.gx_model.proofs.ListedNodes.{nodes_ascend}
use Rattle.gx_model.proofs.Ordering.{kept_in_order}
use Rattle.gx_core.specs.Outcome.{gives}
use Rattle.gx_core.specs.PathLaws.{StepsAreInOrder}
use Rattle.gx_core.specs.Paths.{put_in_order, stepped}
use Rattle.gx_core.proofs.StepLoops.{order_of_nodes}

-- ---- the nodes of one tree ascend

every_before : {A : Type 0} (P : A → Type 0) (xs ys : List A) → Every P (xs ++ ys) → Every P xs
every_before P [] ys e = tt
every_before P (x ∷ xs) ys e = (e.0, every_before P xs ys e.1)

ascends_before : {A : Type 0} (before : A → A → Bool) (xs ys : List A) → Ascends before (xs ++ ys) → Ascends before xs
ascends_before before [] ys h = tt
ascends_before before (x ∷ xs) ys h = (every_before (λ y. before x y ≡ true) xs ys h.0, ascends_before before xs ys h.1)

ascends_behind : {A : Type 0} (before : A → A → Bool) (xs ys : List A) → Ascends before (xs ++ ys) → Ascends before ys
ascends_behind before [] ys h = h
ascends_behind before (x ∷ xs) ys h = ascends_behind before xs ys h.1

tree_ascends : (number position : ℕ) (forest : Forest) (t : PlainTree) → Ascends comes_before (nodes_from number forest)
    → slice_get forest position ≡ Some t
    → Ascends comes_before (map (node_of_tree (number + position)) (all_locations t))
tree_ascends number position [] t h e = absurd (cc)
tree_ascends number zero (u ∷ forest) t h e =
    let same : u ≡ t = cc in
    let here : number ≡ number + 0 = omega arith in
    subst (λ (n : ℕ). Ascends comes_before (map (node_of_tree n) (all_locations t))) here
    (subst (λ (v : PlainTree). Ascends comes_before (map (node_of_tree number) (all_locations v))) same
    (ascends_before comes_before (map (node_of_tree number) (all_locations u)) (nodes_from (suc number) forest) h))
tree_ascends number (suc position) (u ∷ forest) t h e =
    let there : suc number + position ≡ number + suc position = omega arith in
    subst (λ (n : ℕ). Ascends comes_before (map (node_of_tree n) (all_locations t))) there
    (tree_ascends (suc number) position forest t
    (ascends_behind comes_before (map (node_of_tree number) (all_locations u)) (nodes_from (suc number) forest) h) e)

-- those of some locations
every_kept : {A B : Type 0} (make : A → B) (test : A → Bool) (P : B → Type 0) (xs : List A) → Every P (map make xs)
    → Every P (map make (filter test xs))
every_kept make test P [] e = tt
every_kept {A = A} {B = B} make test P (x ∷ xs) e = if_kept (test x) (every_kept make test P xs e.1)
  where
    if_kept : (b : Bool) → Every P (map make (filter test xs)) → Every P (map make (cond b (x ∷ filter test xs) (filter test xs)))
    if_kept true h = (e.0, h)
    if_kept false h = h

ascends_kept : {A B : Type 0} (make : A → B) (test : A → Bool) (before : B → B → Bool) (xs : List A) → Ascends before (map make xs)
    → Ascends before (map make (filter test xs))
ascends_kept make test before [] h = tt
ascends_kept {A = A} {B = B} make test before (x ∷ xs) h = if_kept (test x) (ascends_kept make test before xs h.1)
  where
    if_kept : (b : Bool) → Ascends before (map make (filter test xs))
        → Ascends before (map make (cond b (x ∷ filter test xs) (filter test xs)))
    if_kept true rest = (every_kept make test (λ y. before (make x) y ≡ true) xs h.0, rest)
    if_kept false rest = rest

-- ---- and the forest has them

located_where_passed : (test : PlainTree → Bool) (found : Option PlainTree) → passes_there test found ≡ true → is_some found ≡ true
located_where_passed test None e = absurd (cc)
located_where_passed test (Some t) e = refl

kept_there : (forest : Forest) (n : PlainNode) (ns : List PlainNode) (b : Bool) → b ≡ true
    → filter (λ m. is_some (node_in forest m)) ns ≡ ns
    → cond b (n ∷ filter (λ m. is_some (node_in forest m)) ns) (filter (λ m. is_some (node_in forest m)) ns) ≡ n ∷ ns
kept_there forest n ns true h e = ap (λ (ms : List PlainNode). n ∷ ms) e
kept_there forest n ns false h e = absurd (cc)

all_there : (forest : Forest) (tree : ℕ) (t : PlainTree) (leads : Location → Bool) (test : PlainTree → Bool)
    → slice_get forest tree ≡ Some t → (locations : List Location)
    → filter (λ n. is_some (node_in forest n))
    (map (node_of_tree tree) (filter (λ to. leads to && passes_there test (located t to)) locations))
    ≡ map (node_of_tree tree) (filter (λ to. leads to && passes_there test (located t to)) locations)
all_there forest tree t leads test e [] = refl
all_there forest tree t leads test e (to ∷ locations) =
    if_kept (leads to && passes_there test (located t to)) refl (filter (λ l. leads l && passes_there test (located t l)) locations)
    (all_there forest tree t leads test e locations)
  where
    there : is_some (located t to) ≡ true → is_some (node_in forest (node_of_tree tree to)) ≡ true
    there h = ap (λ (found : Option PlainTree). is_some (then_found found (λ u. located u to))) e ∙ h

    if_kept : (b : Bool) → (leads to && passes_there test (located t to)) ≡ b → (kept : List Location)
        → filter (λ n. is_some (node_in forest n)) (map (node_of_tree tree) kept) ≡ map (node_of_tree tree) kept
        → filter (λ n. is_some (node_in forest n)) (map (node_of_tree tree) (cond b (to ∷ kept) kept)) ≡ map (node_of_tree tree)
        (cond b (to ∷ kept) kept)
    if_kept true h kept rest =
        kept_there forest (node_of_tree tree to) (map (node_of_tree tree) kept) (is_some (node_in forest (node_of_tree tree to)))
        (there (located_where_passed test (located t to) (and_parts (leads to) (passes_there test (located t to)) h).1)) rest
    if_kept false h kept rest = rest

nodes_on_axis_are_ordered : (s : SchemaSet) (forest : Forest) (from : PlainNode) (axis : Axis) (asks : Test)
    → in_document_order forest (on_axis s forest from axis asks) ≡ on_axis s forest from axis asks
nodes_on_axis_are_ordered s forest from axis asks = in_tree (slice_get forest from.tree) refl
  where
    chosen : PlainTree → List Location
    chosen = locations_on (leads_to axis (location_of from)) (passes s axis asks)

    in_tree : (found : Option PlainTree) → slice_get forest from.tree ≡ found
        → in_document_order forest (nodes_in_tree found from.tree chosen) ≡ nodes_in_tree found from.tree chosen
    in_tree None e = nothing_in (nodes_from 0 forest)
      where
        nothing_in : (ns : List PlainNode) → filter (λ n. false) ns ≡ []
        nothing_in [] = refl
        nothing_in (n ∷ ns) = nothing_in ns
    in_tree (Some t) e =
        let nodes : List PlainNode = map (node_of_tree from.tree) (chosen t) in
        let number : 0 + from.tree ≡ from.tree = omega arith in
        let ascends : Ascends comes_before (map (node_of_tree from.tree) (all_locations t)) =
        subst (λ (n : ℕ). Ascends comes_before (map (node_of_tree n) (all_locations t))) number
        (tree_ascends 0 from.tree forest t (nodes_ascend forest) e) in
        sym (kept_in_order forest nodes nodes
        (ascends_kept (node_of_tree from.tree)
        (λ to. leads_to axis (location_of from) to && passes_there (passes s axis asks) (located t to)) comes_before
        (all_locations t) ascends) (λ n. refl))
        ∙ all_there forest from.tree t (leads_to axis (location_of from)) (passes s axis asks) e (all_locations t)

-- ---- the law

nodes_in_order : (forest : Forest) (places : List PlainNode) → in_document_order forest places ≡ places
    → put_in_order (map node places) forest ≡ gives (map node places) forest
nodes_in_order forest places e = order_of_nodes places forest ∙ ap (λ (ps : List PlainNode). gives (map node ps) forest) e

pub steps_are_in_order : StepsAreInOrder
steps_are_in_order s axis asks xs items forest now e = by_items xs e
  where
    by_items : (ys : Items) → stepped s axis asks ys forest ≡ gives items now → put_in_order items now ≡ gives items now
    by_items [] h = absurd (cc)
    by_items (atom a ∷ []) h = absurd (cc)
    by_items (node place ∷ []) h =
        let same : map node (on_axis s forest place axis asks) ≡ items = cc in
        let there : forest ≡ now = cc in
        subst (λ (f : Forest). put_in_order items f ≡ gives items f) there
        (subst (λ (v : Items). put_in_order v forest ≡ gives v forest) same
        (nodes_in_order forest (on_axis s forest place axis asks) (nodes_on_axis_are_ordered s forest place axis asks)))
    by_items (atom a ∷ y ∷ ys) h = absurd (cc)
    by_items (node place ∷ y ∷ ys) h = absurd (cc)
