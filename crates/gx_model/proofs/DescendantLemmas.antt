-- The children of nodes and of their descendants are the descendants of the nodes.
use Rattle.std.proofs.Common.{◌≡◌, ℕ, Bool, true, false, ◌&&◌, ◌||◌, nat_eq, List, [], ◌∷◌, ◌++◌, filter, flat_map, Option, None, Some, refl, sym, ap, ◌∙◌, if◌then◌else◌}
use Rattle.std.specs.Prelude.{is_some}
use Rattle.std.specs.List.{slice_get, list_any}
use Rattle.std.specs.Option.{is_none}
use Rattle.std.specs.Cmp.Lexicographic.{pointwise}
use Rattle.std.proofs.lemmas.Bool.{eqb-true}
use Rattle.std.proofs.lemmas.List.Elements.{filter_agree}
use Rattle.std.proofs.lemmas.List.Folds.{list_any-append}
use Rattle.std.proofs.lemmas.Map.Views.{any-filter_same}
use Rattle.gx_types.specs.declared.step.Axis.{Axis}
use Rattle.gx_types.specs.declared.step.Axis.TheVariants as axes
use Rattle.gx_types.specs.declared.step.Test.{Test}
use Rattle.gx_types.specs.declared.step.Test.TheVariants as tests
use Rattle.gx_types.specs.SchemaSet.{SchemaSet}
use Rattle.gx_tree.specs.PlainTree.{PlainTree, document, element, attribute, text}
use Rattle.gx_model.specs.Forest.{Forest, PlainNode, then_found, children_of, tree_at, attribute_at, node_in}
use Rattle.gx_model.specs.Location.{Location, along, all_locations, located, location_of, node_of_tree}
use Rattle.gx_model.specs.Axes.{same_position, way_down, on_way, no_step, one_step, some_steps, leads_to, is_descendant, passes_there, passes, locations_on, nodes_in_tree, on_axis}
use Rattle.gx_model.specs.DocumentOrder.{same_node, nodes_from, in_document_order}
use Rattle.gx_model.specs.PathLaws.{on_axis_from_each, with_descendants, ChildrenBelowAreDescendants}
use Rattle.gx_model.proofs.AxisLemmas.{nat_symmetric, not_both}
use Rattle.gx_model.proofs.OrderLemmas.{nodes_same}
use Rattle.gx_model.proofs.ListedNodes.{any_mapped, any_agrees, any_never, same_location, in_tree, listed_where_there}
use Rattle.gx_model.proofs.Ordering.{is_in, in_filtered}

-- ---- what stands on an axis

in_part_if : (n : PlainNode) (k : ℕ) (t : PlainTree) (same : Bool) → nat_eq n.tree k ≡ same
    → list_any (λ to. same_node n (node_of_tree k to)) (all_locations t) ≡ (same && is_some (located t (location_of n)))
in_part_if n k t true e =
    any_agrees (λ to. same_node n (node_of_tree k to)) (same_location n.path n.attribute) (λ to. ap (λ (b : Bool). (b && pointwise nat_eq n.path to.path) && same_position n.attribute to.attribute) e) (all_locations t)
    ∙ in_tree n.path n.attribute t
in_part_if n k t false e =
    any_never (λ to. same_node n (node_of_tree k to)) (λ to. ap (λ (b : Bool). (b && pointwise nat_eq n.path to.path) && same_position n.attribute to.attribute) e) (all_locations t)

both_tests : (leads same : Bool) (test : PlainTree → Bool) (found : Option PlainTree)
    → ((leads && passes_there test found) && (same && is_some found)) ≡ ((same && leads) && passes_there test found)
both_tests leads same test None = ap (λ (b : Bool). b && (same && false)) (not_both leads) ∙ sym (not_both (same && leads))
both_tests true true test (Some t) = kept (test t)
  where
    kept : (b : Bool) → (b && true) ≡ b
    kept true = refl
    kept false = refl
both_tests true false test (Some t) = not_both (test t)
both_tests false true test (Some t) = refl
both_tests false false test (Some t) = refl

-- a node is among those of a tree that are chosen
in_chosen : (n : PlainNode) (k : ℕ) (leads : Location → Bool) (test : PlainTree → Bool) (found : Option PlainTree)
    → is_in n (nodes_in_tree found k (locations_on leads test))
    ≡ ((nat_eq n.tree k && leads (location_of n)) && passes_there test (then_found found (λ t. then_found (tree_at t n.path) (attribute_at n.attribute))))
in_chosen n k leads test None = sym (not_both (nat_eq n.tree k && leads (location_of n)))
in_chosen n k leads test (Some t) =
    let chosen : Location → Bool = λ to. leads to && passes_there test (located t to) in
    any_mapped (same_node n) (node_of_tree k) (filter chosen (all_locations t))
    ∙ any-filter_same (λ to. same_node n (node_of_tree k to)) chosen (chosen (location_of n)) (λ to e. ap (λ (m : PlainNode). chosen (location_of m)) (sym (nodes_same n (node_of_tree k to) e))) (all_locations t)
    ∙ ap (λ (b : Bool). chosen (location_of n) && b) (in_part_if n k t (nat_eq n.tree k) refl)
    ∙ both_tests (leads (location_of n)) (nat_eq n.tree k) test (located t (location_of n))

-- a node is reached by a step from another one
abbrev is_reached : SchemaSet → Forest → Axis → Test → PlainNode → PlainNode → Bool
is_reached schemas forest axis test n from = (nat_eq n.tree from.tree && leads_to axis (location_of from) (location_of n)) && passes_there (passes schemas axis test) (node_in forest n)

in_same_tree : (n from : PlainNode) (forest : Forest) (leads : Bool) (test : PlainTree → Bool) (same : Bool) → nat_eq n.tree from.tree ≡ same
    → ((same && leads) && passes_there test (then_found (slice_get forest from.tree) (λ t. then_found (tree_at t n.path) (attribute_at n.attribute))))
    ≡ ((same && leads) && passes_there test (node_in forest n))
in_same_tree n from forest leads test true e =
    ap (λ (k : ℕ). leads && passes_there test (then_found (slice_get forest k) (λ t. then_found (tree_at t n.path) (attribute_at n.attribute)))) (sym (eqb-true n.tree from.tree e))
in_same_tree n from forest leads test false e = refl

on_axis_is : (schemas : SchemaSet) (forest : Forest) (axis : Axis) (test : Test) (n from : PlainNode)
    → is_in n (on_axis schemas forest from axis test) ≡ is_reached schemas forest axis test n from
on_axis_is schemas forest axis test n from =
    in_chosen n from.tree (leads_to axis (location_of from)) (passes schemas axis test) (slice_get forest from.tree)
    ∙ in_same_tree n from forest (leads_to axis (location_of from) (location_of n)) (passes schemas axis test) (nat_eq n.tree from.tree) refl

any_flattened : {A B : Type 0} (f : B → Bool) (make : A → List B) (xs : List A) → list_any f (flat_map make xs) ≡ list_any (λ x. list_any f (make x)) xs
any_flattened f make [] = refl
any_flattened f make (x ∷ xs) = list_any-append f (make x) (flat_map make xs) ∙ ap (λ (b : Bool). list_any f (make x) || b) (any_flattened f make xs)

-- by a step from one of several nodes
from_each : (schemas : SchemaSet) (forest : Forest) (axis : Axis) (test : Test) (n : PlainNode) (nodes : List PlainNode)
    → is_in n (on_axis_from_each schemas forest axis test nodes) ≡ list_any (is_reached schemas forest axis test n) nodes
from_each schemas forest axis test n nodes =
    any_flattened (same_node n) (λ from. on_axis schemas forest from axis test) nodes
    ∙ any_agrees (λ from. is_in n (on_axis schemas forest from axis test)) (is_reached schemas forest axis test n) (on_axis_is schemas forest axis test n) nodes

-- ---- ways to a child

abbrev at : List ℕ → Option ℕ → Location
at path place = record { path = path; attribute = place }

abbrev parent_at : List ℕ → PlainNode → PlainNode
parent_at front n = record { tree = n.tree; path = front; attribute = None }

if_same : {A B : Type 0} (f : A → B) (b : Bool) (x y : A) → f (if b then x else y) ≡ (if b then f x else f y)
if_same f true x y = refl
if_same f false x y = refl

never : (b : Bool) → (if b then false else false) ≡ false
never true = refl
never false = refl

no_way_up : (test : List ℕ → Bool) (p : List ℕ) → test [] ≡ false → on_way test (way_down p []) ≡ false
no_way_up test [] e = e
no_way_up test (m ∷ p) e = refl

too_many : (n : ℕ) (front : List ℕ) (last : ℕ) → one_step (n ∷ (front ++ last ∷ [])) ≡ false
too_many n [] last = refl
too_many n (m ∷ front) last = refl

-- one step leads to a child from its parent alone
step_to_child : (b : Bool) (p front : List ℕ) (last : ℕ) → on_way (λ way. one_step way && b) (way_down p (front ++ last ∷ [])) ≡ (b && pointwise nat_eq front p)
step_to_child b [] [] last = kept b
  where
    kept : (b : Bool) → b ≡ (b && true)
    kept true = refl
    kept false = refl
step_to_child b [] (n ∷ front) last = ap (λ (c : Bool). c && b) (too_many n front last) ∙ sym (not_both b)
step_to_child b (m ∷ p) [] last =
    if_same (on_way (λ way. one_step way && b)) (nat_eq m last) (way_down p []) None
    ∙ ap (λ (c : Bool). if nat_eq m last then c else false) (no_way_up (λ way. one_step way && b) p refl)
    ∙ never (nat_eq m last)
    ∙ sym (not_both b)
step_to_child b (m ∷ p) (n ∷ front) last =
    if_same (on_way (λ way. one_step way && b)) (nat_eq m n) (way_down p (front ++ last ∷ [])) None
    ∙ ap (λ (c : Bool). if nat_eq m n then c else false) (step_to_child b p front last)
    ∙ ap (λ (c : Bool). if c then (b && pointwise nat_eq front p) else false) (nat_symmetric m n)
    ∙ outwards b (nat_eq n m) (pointwise nat_eq front p)
  where
    outwards : (b c d : Bool) → (if c then (b && d) else false) ≡ (b && (c && d))
    outwards b true d = refl
    outwards b false d = sym (not_both b)

-- steps lead to a child where they lead to its parent, or none does
none_or_some : (way : List ℕ) → ((no_step way && true) || (some_steps way && true)) ≡ true
none_or_some [] = refl
none_or_some (n ∷ way) = refl

more_steps : (front : List ℕ) (last : ℕ) → (some_steps (front ++ last ∷ []) && true) ≡ true
more_steps [] last = refl
more_steps (n ∷ front) last = refl

abbrev either_way : Option (List ℕ) → Bool
either_way found = on_way (λ way. no_step way && true) found || on_way (λ way. some_steps way && true) found

same_child : (b : Bool) (shorter longer : Option (List ℕ)) → either_way shorter ≡ on_way (λ way. some_steps way && true) longer
    → either_way (if b then shorter else None) ≡ on_way (λ way. some_steps way && true) (if b then longer else None)
same_child true shorter longer e = e
same_child false shorter longer e = refl

steps_to_child : (p front : List ℕ) (last : ℕ) → either_way (way_down p front) ≡ on_way (λ way. some_steps way && true) (way_down p (front ++ last ∷ []))
steps_to_child [] front last = none_or_some front ∙ sym (more_steps front last)
steps_to_child (m ∷ p) [] last =
    sym (if_same (on_way (λ way. some_steps way && true)) (nat_eq m last) (way_down p []) None
    ∙ ap (λ (c : Bool). if nat_eq m last then c else false) (no_way_up (λ way. some_steps way && true) p refl) ∙ never (nat_eq m last))
steps_to_child (m ∷ p) (n ∷ front) last = same_child (nat_eq m n) (way_down p front) (way_down p (front ++ last ∷ [])) (steps_to_child p front last)

no_way : (test : List ℕ → Bool) (found : Option (List ℕ)) → on_way (λ way. test way && false) found ≡ false
no_way test None = refl
no_way test (Some way) = not_both (test way)

at_or_below : (p : List ℕ) (own : Option ℕ) (front : List ℕ) (last : ℕ) (place : Option ℕ)
    → (is_none place && leads_to axes.DescendantOrSelf (at p own) (along front)) ≡ is_descendant (at p own) (at (front ++ last ∷ []) place)
at_or_below p (Some i) front last place =
    ap (λ (b : Bool). is_none place && (b || false)) (no_way no_step (way_down p front)) ∙ not_both (is_none place)
at_or_below p None front last (Some j) = sym (no_way some_steps (way_down p (front ++ last ∷ [])))
at_or_below p None front last None = steps_to_child p front last

-- ---- children, and their parents

split_last : (m : ℕ) (path : List ℕ) → (front : List ℕ) × (last : ℕ) × (m ∷ path ≡ front ++ last ∷ [])
split_last m [] = ([], m, refl)
split_last m (n ∷ path) = let rest = split_last n path in (m ∷ rest.0, rest.1, ap (λ (p : List ℕ). m ∷ p) rest.2)

is_child_of : (n m : PlainNode) (front : List ℕ) (last : ℕ) → n.path ≡ front ++ last ∷ []
    → (nat_eq n.tree m.tree && leads_to axes.Child (location_of m) (location_of n)) ≡ (is_none n.attribute && same_node (parent_at front n) m)
is_child_of n m front last e =
    ap (λ (q : List ℕ). nat_eq n.tree m.tree && (is_none m.attribute && on_way (λ way. one_step way && is_none n.attribute) (way_down m.path q))) e
    ∙ ap (λ (b : Bool). nat_eq n.tree m.tree && (is_none m.attribute && b)) (step_to_child (is_none n.attribute) m.path front last)
    ∙ arranged (nat_eq n.tree m.tree) (is_none n.attribute) (pointwise nat_eq front m.path) m.attribute
  where
    arranged : (t c p : Bool) (own : Option ℕ) → (t && (is_none own && (c && p))) ≡ (c && ((t && p) && same_position None own))
    arranged false c p own = sym (not_both c)
    arranged true false p own = not_both (is_none own)
    arranged true true false own = not_both (is_none own)
    arranged true true true None = refl
    arranged true true true (Some i) = refl

any_both : {A : Type 0} (a c : Bool) (f : A → Bool) (xs : List A) → list_any (λ x. (a && f x) && c) xs ≡ ((a && list_any f xs) && c)
any_both a c f [] = sym (ap (λ (b : Bool). b && c) (not_both a))
any_both a c f (x ∷ xs) = ap (λ (b : Bool). ((a && f x) && c) || b) (any_both a c f xs) ∙ either a (f x) (list_any f xs) c
  where
    either : (a u v c : Bool) → (((a && u) && c) || ((a && v) && c)) ≡ ((a && (u || v)) && c)
    either false u v c = refl
    either true true v true = refl
    either true true v false = not_both v
    either true false v c = refl

children_are : (schemas : SchemaSet) (forest : Forest) (test : Test) (n : PlainNode) (nodes : List PlainNode) (front : List ℕ) (last : ℕ) → n.path ≡ front ++ last ∷ []
    → is_in n (on_axis_from_each schemas forest axes.Child test nodes)
    ≡ ((is_none n.attribute && is_in (parent_at front n) nodes) && passes_there (passes schemas axes.Child test) (node_in forest n))
children_are schemas forest test n nodes front last e =
    let there : Bool = passes_there (passes schemas axes.Child test) (node_in forest n) in
    from_each schemas forest axes.Child test n nodes
    ∙ any_agrees (is_reached schemas forest axes.Child test n) (λ m. (is_none n.attribute && same_node (parent_at front n) m) && there)
    (λ m. ap (λ (b : Bool). b && there) (is_child_of n m front last e)) nodes
    ∙ any_both (is_none n.attribute) there (same_node (parent_at front n)) nodes

any_node_passes : (schemas : SchemaSet) (found : Option PlainTree) → passes_there (passes schemas axes.DescendantOrSelf tests.Node) found ≡ is_some found
any_node_passes schemas None = refl
any_node_passes schemas (Some (document ts)) = refl
any_node_passes schemas (Some (element name kind attributes ts)) = refl
any_node_passes schemas (Some (attribute a)) = refl
any_node_passes schemas (Some (text t)) = refl

-- a parent is there where its child is
found_above : (test : PlainTree → Bool) (own : Option ℕ) (front : List ℕ) (last : ℕ)
    → ((u : PlainTree) → passes_there test (then_found (tree_at u (front ++ last ∷ [])) (attribute_at own)) ≡ true → is_some (then_found (tree_at u front) (attribute_at None)) ≡ true)
    → (found : Option PlainTree) → passes_there test (then_found (then_found found (λ u. tree_at u (front ++ last ∷ []))) (attribute_at own)) ≡ true
    → is_some (then_found (then_found found (λ u. tree_at u front)) (attribute_at None)) ≡ true
found_above test own front last h None e = absurd (cc)
found_above test own front last h (Some u) e = h u e

above : (test : PlainTree → Bool) (own : Option ℕ) (front : List ℕ) (last : ℕ) (t : PlainTree)
    → passes_there test (then_found (tree_at t (front ++ last ∷ [])) (attribute_at own)) ≡ true → is_some (then_found (tree_at t front) (attribute_at None)) ≡ true
above test own [] last t e = refl
above test own (k ∷ front) last t e = found_above test own front last (above test own front last) (slice_get (children_of t) k) e

parent_is_there : (forest : Forest) (test : PlainTree → Bool) (n : PlainNode) (front : List ℕ) (last : ℕ) → n.path ≡ front ++ last ∷ []
    → passes_there test (node_in forest n) ≡ true → is_some (node_in forest (parent_at front n)) ≡ true
parent_is_there forest test n front last e there =
    in_found (slice_get forest n.tree)
    (sym (ap (λ (q : List ℕ). passes_there test (then_found (slice_get forest n.tree) (λ t. then_found (tree_at t q) (attribute_at n.attribute)))) e) ∙ there)
  where
    in_found : (found : Option PlainTree) → passes_there test (then_found found (λ t. then_found (tree_at t (front ++ last ∷ [])) (attribute_at n.attribute))) ≡ true
        → is_some (then_found found (λ t. then_found (tree_at t front) (attribute_at None))) ≡ true
    in_found None h = absurd (cc)
    in_found (Some t) h = above test n.attribute front last t h

-- ---- children of what stands below

below_is : (a t d e p c : Bool) → (a && d) ≡ e → (c ≡ true → p ≡ true) → ((a && ((t && d) && p)) && c) ≡ ((t && e) && c)
below_is a t d e p false same there = not_both (a && ((t && d) && p)) ∙ sym (not_both (t && e))
below_is a t d e p true same there = ap (λ (b : Bool). (a && ((t && d) && b)) && true) (there refl) ∙ swapped a t d ∙ ap (λ (b : Bool). (t && b) && true) same
  where
    swapped : (a t d : Bool) → ((a && ((t && d) && true)) && true) ≡ ((t && (a && d)) && true)
    swapped true true true = refl
    swapped true true false = refl
    swapped true false d = refl
    swapped false true d = refl
    swapped false false d = refl

kept_there : (a s p c : Bool) → (c ≡ true → p ≡ true) → ((a && (s && p)) && c) ≡ ((a && s) && c)
kept_there a s p false there = not_both (a && (s && p)) ∙ sym (not_both (a && s))
kept_there a s p true there = ap (λ (b : Bool). (a && (s && b)) && true) (there refl) ∙ ap (λ (b : Bool). (a && b) && true) (with_true s)
  where
    with_true : (b : Bool) → (b && true) ≡ b
    with_true true = refl
    with_true false = refl

-- a node that is no root
below_parent : (schemas : SchemaSet) (forest : Forest) (test : Test) (n : PlainNode) (nodes : List PlainNode) (front : List ℕ) (last : ℕ) → n.path ≡ front ++ last ∷ []
    → ((is_none n.attribute && is_in (parent_at front n) (with_descendants schemas forest nodes)) && passes_there (passes schemas axes.Child test) (node_in forest n))
    ≡ is_in n (on_axis_from_each schemas forest axes.Descendant test nodes)
below_parent schemas forest test n nodes front last e =
    let there : Bool = passes_there (passes schemas axes.Child test) (node_in forest n) in
    let parent : PlainNode = parent_at front n in
    ap (λ (b : Bool). (is_none n.attribute && b) && there) (from_each schemas forest axes.DescendantOrSelf tests.Node parent nodes)
    ∙ sym (any_both (is_none n.attribute) there (is_reached schemas forest axes.DescendantOrSelf tests.Node parent) nodes)
    ∙ any_agrees (λ from. (is_none n.attribute && is_reached schemas forest axes.DescendantOrSelf tests.Node parent from) && there) (is_reached schemas forest axes.Descendant test n)
    (λ from. below_is (is_none n.attribute) (nat_eq n.tree from.tree) (leads_to axes.DescendantOrSelf (location_of from) (along front)) (is_descendant (location_of from) (location_of n))
    (passes_there (passes schemas axes.DescendantOrSelf tests.Node) (node_in forest parent)) there
    (at_or_below from.path from.attribute front last n.attribute ∙ ap (λ (q : List ℕ). is_descendant (location_of from) (at q n.attribute)) (sym e))
    (λ h. any_node_passes schemas (node_in forest parent) ∙ parent_is_there forest (passes schemas axes.Child test) n front last e h))
    nodes
    ∙ sym (from_each schemas forest axes.Descendant test n nodes)

-- a root is no child and no descendant
root_is_neither : (schemas : SchemaSet) (forest : Forest) (test : Test) (n : PlainNode) (nodes middle : List PlainNode) → n.path ≡ []
    → is_in n (on_axis_from_each schemas forest axes.Child test middle) ≡ is_in n (on_axis_from_each schemas forest axes.Descendant test nodes)
root_is_neither schemas forest test n nodes middle e =
    from_each schemas forest axes.Child test n middle
    ∙ any_never (is_reached schemas forest axes.Child test n) (λ from. ap (λ (b : Bool). b && there) (nowhere from (λ way. one_step way && is_none n.attribute) refl)) middle
    ∙ sym (any_never (is_reached schemas forest axes.Descendant test n) (λ from. ap (λ (b : Bool). b && there) (nowhere from (λ way. some_steps way && is_none n.attribute) refl)) nodes)
    ∙ sym (from_each schemas forest axes.Descendant test n nodes)
  where
    there : Bool
    there = passes_there (passes schemas axes.Child test) (node_in forest n)

    nowhere : (from : PlainNode) (way_test : List ℕ → Bool) → way_test [] ≡ false → (nat_eq n.tree from.tree && (is_none from.attribute && on_way way_test (way_down from.path n.path))) ≡ false
    nowhere from way_test h =
        ap (λ (q : List ℕ). nat_eq n.tree from.tree && (is_none from.attribute && on_way way_test (way_down from.path q))) e
        ∙ ap (λ (b : Bool). nat_eq n.tree from.tree && (is_none from.attribute && b)) (no_way_up way_test from.path h)
        ∙ ap (λ (b : Bool). nat_eq n.tree from.tree && b) (not_both (is_none from.attribute))
        ∙ not_both (nat_eq n.tree from.tree)

together_at : (schemas : SchemaSet) (forest : Forest) (test : Test) (nodes : List PlainNode) (n : PlainNode) (path : List ℕ) → n.path ≡ path
    → is_in n (on_axis_from_each schemas forest axes.Child test (with_descendants schemas forest nodes)) ≡ is_in n (on_axis_from_each schemas forest axes.Descendant test nodes)
together_at schemas forest test nodes n [] e = root_is_neither schemas forest test n nodes (with_descendants schemas forest nodes) e
together_at schemas forest test nodes n (m ∷ path) e =
    let split = split_last m path in
    children_are schemas forest test n (with_descendants schemas forest nodes) split.0 split.1 (e ∙ split.2)
    ∙ below_parent schemas forest test n nodes split.0 split.1 (e ∙ split.2)

ordered_at : (schemas : SchemaSet) (forest : Forest) (test : Test) (nodes : List PlainNode) (n : PlainNode) (path : List ℕ) → n.path ≡ path
    → is_in n (on_axis_from_each schemas forest axes.Child test (in_document_order forest (with_descendants schemas forest nodes))) ≡ is_in n (on_axis_from_each schemas forest axes.Descendant test nodes)
ordered_at schemas forest test nodes n [] e = root_is_neither schemas forest test n nodes (in_document_order forest (with_descendants schemas forest nodes)) e
ordered_at schemas forest test nodes n (m ∷ path) e =
    let split = split_last m path in
    let below : List PlainNode = with_descendants schemas forest nodes in
    let parent : PlainNode = parent_at split.0 n in
    let there : Bool = passes_there (passes schemas axes.Child test) (node_in forest n) in
    children_are schemas forest test n (in_document_order forest below) split.0 split.1 (e ∙ split.2)
    ∙ ap (λ (b : Bool). (is_none n.attribute && b) && there) (in_filtered (λ k. is_in k below) parent (nodes_from 0 forest))
    ∙ ap (λ (b : Bool). (is_none n.attribute && (is_in parent below && b)) && there) (listed_where_there forest parent)
    ∙ kept_there (is_none n.attribute) (is_in parent below) (is_some (node_in forest parent)) there (parent_is_there forest (passes schemas axes.Child test) n split.0 split.1 (e ∙ split.2))
    ∙ below_parent schemas forest test n nodes split.0 split.1 (e ∙ split.2)

pub children_below_are_descendants : ChildrenBelowAreDescendants
children_below_are_descendants = record {
  together = λ schemas forest test nodes.
      filter_agree (λ n. is_in n (on_axis_from_each schemas forest axes.Child test (with_descendants schemas forest nodes))) (λ n. is_in n (on_axis_from_each schemas forest axes.Descendant test nodes))
      (λ n. together_at schemas forest test nodes n n.path refl) (nodes_from 0 forest);
  ordered = λ schemas forest test nodes.
      filter_agree (λ n. is_in n (on_axis_from_each schemas forest axes.Child test (in_document_order forest (with_descendants schemas forest nodes))))
      (λ n. is_in n (on_axis_from_each schemas forest axes.Descendant test nodes))
      (λ n. ordered_at schemas forest test nodes n n.path refl) (nodes_from 0 forest);
}
