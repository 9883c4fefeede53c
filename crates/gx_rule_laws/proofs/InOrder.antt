-- Values that stand in document order.
use Rattle.std.proofs.Common.{◌≡◌, Bool, true, false, ◌&&◌, cond, List, [], ◌∷◌, map, filter, Option, None, Some, is_some, refl, sym, ◌∙◌, ap, if◌then◌else◌}
use Rattle.std.specs.List.{list_all, list_any}
use Rattle.std.specs.Option.{option_map}
use Rattle.gx_types.specs.declared.shape.Shape.{Shape}
use Rattle.gx_types.specs.SchemaSet.{SchemaSet}
use Rattle.gx_tree.specs.PlainTree.{PlainTree}
use Rattle.gx_model.specs.Belongs.{shape_of, HaveShapes}
use Rattle.gx_model.specs.DocumentOrder.{comes_before, nodes_from, in_document_order}
use Rattle.gx_model.specs.Forest.{Forest, PlainNode, node_in}
use Rattle.gx_model.specs.Item.{Items, atom, node}
use Rattle.gx_model.specs.OrderLaws.{Ascends, Every}
use Rattle.gx_model.proofs.Ordering.{is_in, in_filtered, same_nodes, ordered_ascend, kept_in_order}
use Rattle.gx_core.specs.Outcome.{gives, wrong}
use Rattle.gx_core.specs.Paths.{is_node, places_of, put_in_order}
use Rattle.gx_core.proofs.StepLoops.{order_of_nodes}
use Rattle.gx_rule_laws.proofs.Outcomes.{StaysInOrder}

-- ---- nodes in order are in order

twice : (a b : Bool) → ((a && b) && b) ≡ (a && b)
twice true true = refl
twice true false = refl
twice false b = refl

pub order_stays : (forest : Forest) (nodes : List PlainNode)
    → in_document_order forest (in_document_order forest nodes) ≡ in_document_order forest nodes
order_stays forest nodes =
    let all : List PlainNode = nodes_from 0 forest in
    let once : List PlainNode = in_document_order forest nodes in
    same_nodes (in_document_order forest once) once (ordered_ascend forest once) (ordered_ascend forest nodes)
    (λ n. in_filtered (λ m. is_in m once) n all
    ∙ ap (λ (b : Bool). b && is_in n all) (in_filtered (λ m. is_in m nodes) n all)
    ∙ twice (is_in n nodes) (is_in n all)
    ∙ sym (in_filtered (λ m. is_in m nodes) n all))

pub ordered_nodes_stay : (forest : Forest) (nodes : List PlainNode)
    → StaysInOrder (gives (map node (in_document_order forest nodes)) forest)
ordered_nodes_stay forest nodes =
    order_of_nodes (in_document_order forest nodes) forest
    ∙ ap (λ (ns : List PlainNode). gives (map node ns) forest) (order_stays forest nodes)

-- what is put in order is in order
pub put_in_order_stays : (xs : Items) (forest : Forest) → StaysInOrder (put_in_order xs forest)
put_in_order_stays xs forest = by_nodes (list_all is_node xs) refl
  where
    unordered : (b : Bool) → list_any is_node xs ≡ b → list_all is_node xs ≡ false → StaysInOrder (if b then wrong else gives xs forest)
    unordered true e f = refl
    unordered false e f =
        ap (λ (all : Bool). if all then gives (map node (in_document_order forest (places_of xs))) forest
        else (if list_any is_node xs then wrong else gives xs forest)) f
        ∙ ap (λ (any : Bool). if any then wrong else gives xs forest) e

    by_nodes : (b : Bool) → list_all is_node xs ≡ b
        → StaysInOrder (if b then gives (map node (in_document_order forest (places_of xs))) forest
        else (if list_any is_node xs then wrong else gives xs forest))
    by_nodes true e = ordered_nodes_stay forest (places_of xs)
    by_nodes false e = unordered (list_any is_node xs) refl e

-- ---- nodes that ascend are in order

-- a forest has nodes
abbrev pub AreThere : Forest → List PlainNode → Type 0
AreThere forest nodes = Every (λ n. is_some (node_in forest n) ≡ true) nodes

all_kept : {A : Type 0} (test : A → Bool) (xs : List A) → Every (λ x. test x ≡ true) xs → filter test xs ≡ xs
all_kept test [] h = refl
all_kept test (x ∷ xs) h =
    ap (λ (b : Bool). cond b (x ∷ filter test xs) (filter test xs)) h.0 ∙ ap (λ ys. x ∷ ys) (all_kept test xs h.1)

pub ascending_nodes_stay : (forest : Forest) (nodes : List PlainNode) → Ascends comes_before nodes → AreThere forest nodes
    → put_in_order (map node nodes) forest ≡ gives (map node nodes) forest
ascending_nodes_stay forest nodes ascends there =
    order_of_nodes nodes forest
    ∙ ap (λ (ns : List PlainNode). gives (map node ns) forest)
    (sym (kept_in_order forest nodes nodes ascends (λ n. refl)) ∙ all_kept (λ n. is_some (node_in forest n)) nodes there)

-- items that have shapes are there
shown_there : (found : Option PlainTree) (shape : Shape) → option_map shape_of found ≡ Some shape → is_some found ≡ true
shown_there None shape e = absurd (cc)
shown_there (Some t) shape e = refl

pub shown_nodes_are_there : (s : SchemaSet) (forest : Forest) (nodes : List PlainNode) (shapes : List Shape)
    → HaveShapes s forest (map node nodes) shapes → AreThere forest nodes
shown_nodes_are_there s forest [] shapes h = tt
shown_nodes_are_there s forest (n ∷ nodes) [] h = absurd h
shown_nodes_are_there s forest (n ∷ nodes) (shape ∷ shapes) h =
    (shown_there (node_in forest n) shape h.0, shown_nodes_are_there s forest nodes shapes h.2)

abbrev pub IsAtMostOne : Items → Type 0
IsAtMostOne (x ∷ y ∷ xs) = ⊥
IsAtMostOne _ = Unit {0}

-- at most one item is in order
pub few_items_stay : (s : SchemaSet) (forest : Forest) (xs : Items) (shapes : List Shape) → HaveShapes s forest xs shapes → IsAtMostOne xs
    → put_in_order xs forest ≡ gives xs forest
few_items_stay s forest [] shapes h few = ascending_nodes_stay forest [] tt tt
few_items_stay s forest (atom a ∷ []) shapes h few = refl
few_items_stay s forest (node place ∷ []) shapes h few =
    ascending_nodes_stay forest (place ∷ []) (tt, tt) (shown_nodes_are_there s forest (place ∷ []) shapes h)
few_items_stay s forest (x ∷ y ∷ xs) shapes h few = absurd few
