-- Steps by numbers are steps by places.
use Rattle.std.proofs.Common.{◌≡◌, ℕ, ◌<◌, ◌≤◌, Bool, true, false, ltb, List, [], ◌∷◌, ◌++◌, map, filter, reverse, cond, Option, None, Some, refl, sym, ap, ◌∙◌, subst, append_assoc}
use Rattle.std.specs.Prelude.{option_map, option_to_list}
use Rattle.std.specs.List.{slice_get}
use Rattle.std.proofs.lemmas.Bool.{ltb-true, ltb-false}
use Rattle.std.proofs.lemmas.List.{reverse-append}
use Rattle.std.proofs.lemmas.List.Elements.{filter-append, filter_agree}
use Rattle.gx_types.specs.declared.step.Axis.{Axis}
use Rattle.gx_types.specs.declared.step.Axis.TheVariants as axes
use Rattle.gx_types.specs.declared.step.Test.{Test}
use Rattle.gx_types.specs.SchemaSet.{SchemaSet}
use Rattle.gx_tree.specs.PlainTree.{PlainTree}
use Rattle.gx_model.specs.Axes.{leads_to, on_axis, passes, passes_there}
use Rattle.gx_model.specs.Forest.{Forest, PlainNode}
use Rattle.gx_model.specs.Growth.{Extends}
use Rattle.gx_model.specs.Location.{location_of, node_of_tree}
use Rattle.gx_model.proofs.ListLemmas.{map_appended, filter_mapped}
use Rattle.gx_nodes.specs.Entries.{count_in, place_of_number}
use Rattle.gx_nodes.specs.Near.{places_where_found, parent_in, attributes_in, child_nodes_in, descendants_in, ancestors_in, locations_above}
use Rattle.gx_nodes.proofs.AxisNodes.{children_on_axis, attributes_on_axis, itself_on_axis, parent_on_axis, nothing_on_axis, descendants_on_axis, with_descendants_on_axis}
use Rattle.gx_nodes.proofs.AncestorNodes.{ancestors_on_axis, with_ancestors_on_axis, ancestors_more}
use Rattle.gx_nodes.proofs.FoundLemmas.{tree_is_not_there}
use Rattle.gx_store.specs.declared.number.NodeId.{NodeId}
use Rattle.gx_store.specs.Places.{node_places, passes_on}
use Rattle.gx_store.proofs.OrderedLemmas.{placed}
use Rattle.gx_store.proofs.ValueLemmas.{extends_itself}
use Rattle.gx_store.proofs.StoreLemmas.{at_later, found_later, not_found_later, parent_past}

-- those of some nodes that pass are what is found on an axis
abbrev Finds : SchemaSet → Forest → PlainNode → Test → List PlainNode → Axis → Type 0
Finds schemas forest from test ns axis = filter (passes_on schemas forest axis test) ns ≡ on_axis schemas forest from axis test

pub children_step : (schemas : SchemaSet) (forest : Forest) (from : PlainNode) (axis : Axis) (test : Test) → axis ≡ axes.Child → Finds schemas forest from test (child_nodes_in forest from) axis
children_step schemas forest from axis test e = subst (Finds schemas forest from test (child_nodes_in forest from)) (sym e) (children_on_axis forest from (passes schemas axes.Child test))

pub attributes_step : (schemas : SchemaSet) (forest : Forest) (from : PlainNode) (axis : Axis) (test : Test) → axis ≡ axes.Attribute → Finds schemas forest from test (attributes_in forest from) axis
attributes_step schemas forest from axis test e = subst (Finds schemas forest from test (attributes_in forest from)) (sym e) (attributes_on_axis forest from (passes schemas axes.Attribute test))

pub self_step : (schemas : SchemaSet) (forest : Forest) (from : PlainNode) (axis : Axis) (test : Test) → axis ≡ axes.SelfAxis → Finds schemas forest from test (from ∷ []) axis
self_step schemas forest from axis test e = subst (Finds schemas forest from test (from ∷ [])) (sym e) (itself_on_axis forest from (passes schemas axes.SelfAxis test))

pub descendants_step : (schemas : SchemaSet) (forest : Forest) (from : PlainNode) (axis : Axis) (test : Test) → axis ≡ axes.Descendant → Finds schemas forest from test (descendants_in forest from) axis
descendants_step schemas forest from axis test e = subst (Finds schemas forest from test (descendants_in forest from)) (sym e) (descendants_on_axis forest from (passes schemas axes.Descendant test))

pub with_descendants_step : (schemas : SchemaSet) (forest : Forest) (from : PlainNode) (axis : Axis) (test : Test) → axis ≡ axes.DescendantOrSelf → Finds schemas forest from test (from ∷ descendants_in forest from) axis
with_descendants_step schemas forest from axis test e =
    subst (Finds schemas forest from test (from ∷ descendants_in forest from)) (sym e) (with_descendants_on_axis forest from (passes schemas axes.DescendantOrSelf test))

-- what stands above the node of a number

tree_gone : (forest later : Forest) (n : ℕ) → count_in forest ≤ n → Extends forest later → slice_get forest (place_of_number later n).tree ≡ None
tree_gone forest later n h x = at_later forest later x (λ f. slice_get forest (place_of_number f n).tree ≡ None) (tree_is_not_there forest x.more n h)

by_count : {P : Type 0} (n m : ℕ) → (n < m → P) → (m ≤ n → P) → P
by_count {P = P} n m below past = by_test (ltb n m) refl
  where
    by_test : (b : Bool) → ltb n m ≡ b → P
    by_test true e = below (ltb-true n m e)
    by_test false e = past (ltb-false n m e)

pub parent_step : (schemas : SchemaSet) (forest later : Forest) (n : ℕ) (axis : Axis) (test : Test) → axis ≡ axes.Parent → Extends forest later
    → Finds schemas forest (place_of_number later n) test (option_to_list (parent_in forest (place_of_number later n))) axis
parent_step schemas forest later n axis test e x =
    let from : PlainNode = place_of_number later n in
    let P : PlainTree → Bool = passes schemas axes.Parent test in
    subst (Finds schemas forest from test (option_to_list (parent_in forest from))) (sym e) (by_count n (count_in forest)
    (λ h. parent_on_axis forest from P _ (found_later forest later n h x))
    (λ h. ap (λ (o : Option PlainNode). filter (passes_on schemas forest axes.Parent test) (option_to_list o)) (sym (parent_past forest later n h x)) ∙ nothing_on_axis forest from (leads_to axes.Parent (location_of from)) P (tree_gone forest later n h x)))

none_above : (forest later : Forest) (n : ℕ) → count_in forest ≤ n → Extends forest later → ancestors_in forest (place_of_number later n) ≡ []
none_above forest later n h x =
    let from : PlainNode = place_of_number later n in
    ap (λ (o : Option PlainTree). places_where_found o (λ t. map (node_of_tree from.tree) (locations_above (location_of from)))) (not_found_later forest later n h x)

pub ancestors_step : (schemas : SchemaSet) (forest later : Forest) (n : ℕ) (axis : Axis) (test : Test) → axis ≡ axes.Ancestor → Extends forest later
    → Finds schemas forest (place_of_number later n) test (ancestors_in forest (place_of_number later n)) axis
ancestors_step schemas forest later n axis test e x =
    let from : PlainNode = place_of_number later n in
    let P : PlainTree → Bool = passes schemas axes.Ancestor test in
    subst (Finds schemas forest from test (ancestors_in forest from)) (sym e) (by_count n (count_in forest)
    (λ h. ancestors_on_axis forest from P _ (found_later forest later n h x))
    (λ h. ap (filter (passes_on schemas forest axes.Ancestor test)) (none_above forest later n h x) ∙ nothing_on_axis forest from (leads_to axes.Ancestor (location_of from)) P (tree_gone forest later n h x)))

pub with_ancestors_step : (schemas : SchemaSet) (forest later : Forest) (n : ℕ) (axis : Axis) (test : Test) → axis ≡ axes.AncestorOrSelf → Extends forest later
    → Finds schemas forest (place_of_number later n) test (ancestors_in forest (place_of_number later n) ++ place_of_number later n ∷ []) axis
with_ancestors_step schemas forest later n axis test e x =
    let from : PlainNode = place_of_number later n in
    let P : PlainTree → Bool = passes schemas axes.AncestorOrSelf test in
    subst (Finds schemas forest from test (ancestors_in forest from ++ from ∷ [])) (sym e) (by_count n (count_in forest)
    (λ h. with_ancestors_on_axis forest from P _ (found_later forest later n h x))
    (λ h.
    ap (λ (ns : List PlainNode). filter (passes_on schemas forest axes.AncestorOrSelf test) (ns ++ from ∷ [])) (none_above forest later n h x)
    ∙ ap (λ (o : Option PlainTree). cond (passes_there P o) (from ∷ []) []) (not_found_later forest later n h x)
    ∙ nothing_on_axis forest from (leads_to axes.AncestorOrSelf (location_of from)) P (tree_gone forest later n h x)))

-- lists of nodes

pub option_places : (later : Forest) (o : Option NodeId) → node_places later (option_to_list o) ≡ option_to_list (option_map (λ m. place_of_number later m.number) o)
option_places later None = refl
option_places later (Some m) = refl

pub joined_places : (later : Forest) (ms ns : List NodeId) → node_places later (ms ++ ns) ≡ node_places later ms ++ node_places later ns
joined_places later ms ns = map_appended (placed later) ms ns

-- a node more that was tried
pub one_tried : (later : Forest) (pass : PlainNode → Bool) (old new : List NodeId) (m : NodeId) (b : Bool) → b ≡ pass (placed later m) → new ≡ old ++ cond b (m ∷ []) []
    → node_places later new ≡ node_places later old ++ filter pass (placed later m ∷ [])
one_tried later pass old new m b e n =
    ap (node_places later) n ∙ joined_places later old (cond b (m ∷ []) []) ∙ ap (λ (ns : List PlainNode). node_places later old ++ ns) (by_test b) ∙ ap (λ (c : Bool). node_places later old ++ cond c (placed later m ∷ []) []) e
  where
    by_test : (c : Bool) → node_places later (cond c (m ∷ []) []) ≡ cond c (placed later m ∷ []) []
    by_test true = refl
    by_test false = refl

-- one node of those that are left
pub tried_next : (later : Forest) (pass : PlainNode → Bool) (found now left next : List NodeId) (m : NodeId) (whole : List PlainNode)
    → node_places later now ≡ node_places later found ++ filter pass (placed later m ∷ []) → left ≡ m ∷ next → node_places later found ++ filter pass (node_places later left) ≡ whole
    → node_places later now ++ filter pass (node_places later next) ≡ whole
tried_next later pass found now left next m whole n e h =
    ap (λ (ns : List PlainNode). ns ++ filter pass (node_places later next)) n
    ∙ append_assoc (node_places later found) (filter pass (placed later m ∷ [])) (filter pass (node_places later next))
    ∙ ap (λ (ns : List PlainNode). node_places later found ++ ns) (sym (filter-append pass (placed later m ∷ []) (node_places later next)))
    ∙ ap (λ (ms : List NodeId). node_places later found ++ filter pass (node_places later ms)) (sym e)
    ∙ h

-- one step up
pub up_next : (forest later : Forest) (here parent : NodeId) (found now : List NodeId) (whole : List PlainNode) → parent_in forest (placed later here) ≡ Some (placed later parent) → now ≡ found ++ parent ∷ []
    → ancestors_in forest (placed later here) ++ node_places later (reverse found) ≡ whole → ancestors_in forest (placed later parent) ++ node_places later (reverse now) ≡ whole
up_next forest later here parent found now whole e n h =
    let A : List PlainNode = ancestors_in forest (placed later parent) in
    let last : reverse now ≡ parent ∷ reverse found = ap reverse n ∙ reverse-append found (parent ∷ []) in
    ap (λ (ms : List NodeId). A ++ node_places later ms) last
    ∙ sym (append_assoc A (placed later parent ∷ []) (node_places later (reverse found)))
    ∙ ap (λ (ns : List PlainNode). ns ++ node_places later (reverse found)) (sym (ancestors_more forest (placed later here) (placed later parent) e))
    ∙ h

-- those of some nodes that pass, wherever they stand

passes_anywhere : (schemas : SchemaSet) (forest later : Forest) (axis : Axis) (test : Test) (m : NodeId) → Extends forest later
    → passes_on schemas forest axis test (place_of_number forest m.number) ≡ passes_on schemas forest axis test (placed later m)
passes_anywhere schemas forest later axis test m x =
    by_count m.number (count_in forest)
    (λ h. ap (passes_there (passes schemas axis test)) (found_later forest forest m.number h (extends_itself forest) ∙ sym (found_later forest later m.number h x)))
    (λ h. ap (passes_there (passes schemas axis test)) (not_found_later forest forest m.number h (extends_itself forest) ∙ sym (not_found_later forest later m.number h x)))

pub kept_places : (schemas : SchemaSet) (forest later : Forest) (axis : Axis) (test : Test) (ms : List NodeId) → Extends forest later
    → node_places later (filter (λ m. passes_on schemas forest axis test (place_of_number forest m.number)) ms) ≡ filter (passes_on schemas forest axis test) (node_places later ms)
kept_places schemas forest later axis test ms x =
    ap (node_places later) (filter_agree (λ (m : NodeId). passes_on schemas forest axis test (place_of_number forest m.number)) (λ m. passes_on schemas forest axis test (placed later m)) (λ m. passes_anywhere schemas forest later axis test m x) ms)
    ∙ sym (filter_mapped (passes_on schemas forest axis test) (placed later) ms)
