-- The values of flat expressions: at most one item, or nodes of one level that ascend.
use Rattle.std.proofs.Common.{◌≡◌, ◌⊎◌, inl, inr, ℕ, suc, ◌+◌, Bool, true, List, [], ◌∷◌, ◌++◌, map, length, append_assoc, Option, None, Some, is_some, refl, sym, ◌∙◌, ap, subst}
use Rattle.std.proofs.lemmas.List.{append-nil, map-append}
use Rattle.gx_types.specs.declared.shape.Shape.{Shape}
use Rattle.gx_types.specs.declared.step.Axis.{Axis}
use Rattle.gx_types.specs.declared.step.Test.{Test}
use Rattle.gx_types.specs.SchemaSet.{SchemaSet}
use Rattle.gx_types.specs.SequenceType.{SequenceType}
use Rattle.gx_model.specs.Axes.{on_axis}
use Rattle.gx_model.specs.Belongs.{HaveShapes}
use Rattle.gx_model.specs.DocumentOrder.{comes_before, in_document_order}
use Rattle.gx_model.specs.Forest.{Forest, PlainNode}
use Rattle.gx_model.specs.Item.{Items, atom, node}
use Rattle.gx_model.specs.OrderLaws.{Ascends}
use Rattle.gx_model.specs.PathLaws.{on_axis_from_each}
use Rattle.gx_model.proofs.Ordering.{ordered_ascend}
use Rattle.gx_core.specs.Outcome.{Outcome, gives, raises, wrong, after, given}
use Rattle.gx_core.specs.Paths.{places_of, stepped, put_in_order}
use Rattle.gx_core.specs.Meaning.{for_each}
use Rattle.gx_core.specs.PathLaws.{stepped_from_each}
use Rattle.gx_core.specs.Soundness.{Setting, Keeps}
use Rattle.gx_core.proofs.StepLoops.{order_of_nodes}
use Rattle.gx_core.proofs.StepsInOrder.{steps_are_in_order}
use Rattle.gx_rules.specs.Guards.{is_near}
use Rattle.gx_rule_laws.proofs.Outcomes.{StaysInOrder}
use Rattle.gx_rule_laws.proofs.InOrder.{IsAtMostOne, few_items_stay, ascending_nodes_stay, shown_nodes_are_there}
use Rattle.gx_rule_laws.proofs.NearSteps.{levels_down, gives_attributes, IsFlat, flat_from_each}

-- ---- flat values

pub record AreFlatNodes (xs : Items) : Type 0 where
  pub nodes : List PlainNode
  pub are : xs ≡ map node nodes
  pub depth : ℕ
  pub attributes : Bool
  pub flat : IsFlat depth attributes nodes

abbrev pub IsFlatValue : Items → Type 0
IsFlatValue xs = IsAtMostOne xs ⊎ AreFlatNodes xs

abbrev pub GivesFlatValue : Outcome Items → Type 0
GivesFlatValue (gives xs left) = IsFlatValue xs
GivesFlatValue (raises code) = Unit {0}
GivesFlatValue wrong = Unit {0}

-- a flat value is in document order
flat_value_stays : (s : SchemaSet) (forest : Forest) (xs : Items) (seen : List Shape) → HaveShapes s forest xs seen → IsFlatValue xs
    → put_in_order xs forest ≡ gives xs forest
flat_value_stays s forest xs seen h (inl few) = few_items_stay s forest xs seen h few
flat_value_stays s forest xs seen h (inr flat) =
    subst (λ (ys : Items). put_in_order ys forest ≡ gives ys forest) (sym flat.are)
    (ascending_nodes_stay forest flat.nodes flat.flat.ascends (shown_nodes_are_there s forest flat.nodes seen (subst (λ (ys : Items). HaveShapes s forest ys seen) flat.are h)))

pub flat_stays : (setting : Setting) (before : Forest) (t : SequenceType) (outcome : Outcome Items) → GivesFlatValue outcome → Keeps setting before t outcome
    → StaysInOrder outcome
flat_stays setting before t (gives xs left) flat keeps = flat_value_stays setting.schemas left xs keeps.fact.seen keeps.fact.shaped flat
flat_stays setting before t (raises code) flat keeps = refl
flat_stays setting before t wrong flat keeps = refl

-- what follows each value
pub flat_after : {R : Type 0} (outcome : Outcome R) (next : R → Forest → Outcome Items)
    → ((x : R) (left : Forest) → outcome ≡ gives x left → GivesFlatValue (next x left)) → GivesFlatValue (after outcome next)
flat_after (gives x left) next h = h x left refl
flat_after (raises code) next h = tt
flat_after wrong next h = tt

-- ---- one near step

places_back : (nodes : List PlainNode) → places_of (map node nodes) ≡ nodes
places_back [] = refl
places_back (n ∷ nodes) = ap (λ (ns : List PlainNode). n ∷ ns) (places_back nodes)

items_given : (xs ys : Items) (forest now : Forest) → gives xs forest ≡ gives ys now → xs ≡ ys
items_given xs ys forest now e = cc

pub axis_in_order : (s : SchemaSet) (forest : Forest) (axis : Axis) (asks : Test) (from : PlainNode)
    → in_document_order forest (on_axis s forest from axis asks) ≡ on_axis s forest from axis asks
axis_in_order s forest axis asks from =
    let nodes : List PlainNode = on_axis s forest from axis asks in
    let same : map node (in_document_order forest nodes) ≡ map node nodes =
    items_given (map node (in_document_order forest nodes)) (map node nodes) forest forest
    (sym (order_of_nodes nodes forest) ∙ steps_are_in_order s axis asks (node from ∷ []) (map node nodes) forest forest refl) in
    sym (places_back (in_document_order forest nodes)) ∙ ap places_of same ∙ places_back nodes

pub axis_ascends : (s : SchemaSet) (forest : Forest) (axis : Axis) (asks : Test) (from : PlainNode) → Ascends comes_before (on_axis s forest from axis asks)
axis_ascends s forest axis asks from =
    subst (Ascends comes_before) (axis_in_order s forest axis asks from) (ordered_ascend forest (on_axis s forest from axis asks))

-- one node is flat
one_is_flat : (n : PlainNode) → IsFlat (length n.path) (is_some n.attribute) (n ∷ [])
one_is_flat n = record { level = ((refl, refl), tt); ascends = (tt, tt) }

steps_are_flat : (s : SchemaSet) (forest : Forest) (axis : Axis) (asks : Test) → is_near axis ≡ true → (nodes : List PlainNode) (depth : ℕ) (attributes : Bool)
    → IsFlat depth attributes nodes → AreFlatNodes (map node (on_axis_from_each s forest axis asks nodes))
steps_are_flat s forest axis asks near nodes depth attributes flat = record {
  nodes = on_axis_from_each s forest axis asks nodes;
  are = refl;
  depth = depth + levels_down axis;
  attributes = gives_attributes axis attributes;
  flat = flat_from_each s forest axis asks near (axis_ascends s forest axis asks) depth attributes nodes flat;
}

one_step_flat : (s : SchemaSet) (forest : Forest) (axis : Axis) (asks : Test) → is_near axis ≡ true → (from : PlainNode)
    → AreFlatNodes (map node (on_axis s forest from axis asks))
one_step_flat s forest axis asks near from =
    subst (λ (ns : List PlainNode). AreFlatNodes (map node ns)) (append-nil (on_axis s forest from axis asks))
    (steps_are_flat s forest axis asks near (from ∷ []) (length from.path) (is_some from.attribute) (one_is_flat from))

pub step_is_flat : (s : SchemaSet) (axis : Axis) (asks : Test) → is_near axis ≡ true → (found : Option Items) (forest : Forest)
    → GivesFlatValue (given found (λ value. stepped s axis asks value forest))
step_is_flat s axis asks near None forest = tt
step_is_flat s axis asks near (Some []) forest = tt
step_is_flat s axis asks near (Some (atom a ∷ [])) forest = tt
step_is_flat s axis asks near (Some (node from ∷ [])) forest = inr (one_step_flat s forest axis asks near from)
step_is_flat s axis asks near (Some (atom a ∷ y ∷ xs)) forest = tt
step_is_flat s axis asks near (Some (node from ∷ y ∷ xs)) forest = tt

-- ---- a loop of near steps over a flat value

loop_over_nodes : (s : SchemaSet) (axis : Axis) (asks : Test) (number : ℕ) (done : Items) (nodes : List PlainNode) (forest : Forest)
    → for_each (λ n x now. stepped s axis asks (x ∷ []) now) number done (map node nodes) forest
    ≡ gives (done ++ map node (on_axis_from_each s forest axis asks nodes)) forest
loop_over_nodes s axis asks number done [] forest = ap (λ (v : Items). gives v forest) (sym (append-nil done))
loop_over_nodes s axis asks number done (from ∷ nodes) forest =
    let first : List PlainNode = on_axis s forest from axis asks in
    let others : List PlainNode = on_axis_from_each s forest axis asks nodes in
    loop_over_nodes s axis asks (suc number) (done ++ map node first) nodes forest
    ∙ ap (λ (v : Items). gives v forest) (append_assoc done (map node first) (map node others) ∙ ap (λ (v : Items). done ++ v) (sym (map-append node first others)))

over_nodes : (s : SchemaSet) (axis : Axis) (asks : Test) → is_near axis ≡ true → (nodes : List PlainNode) (depth : ℕ) (attributes : Bool) (forest : Forest)
    → IsFlat depth attributes nodes → GivesFlatValue (stepped_from_each s axis asks [] (map node nodes) forest)
over_nodes s axis asks near nodes depth attributes forest flat =
    subst GivesFlatValue (sym (loop_over_nodes s axis asks 1 [] nodes forest)) (inr (steps_are_flat s forest axis asks near nodes depth attributes flat))

pub loop_is_flat : (s : SchemaSet) (axis : Axis) (asks : Test) → is_near axis ≡ true → (xs : Items) (forest : Forest) → IsFlatValue xs
    → GivesFlatValue (stepped_from_each s axis asks [] xs forest)
loop_is_flat s axis asks near [] forest (inl few) = inl tt
loop_is_flat s axis asks near (atom a ∷ []) forest (inl few) = tt
loop_is_flat s axis asks near (node from ∷ []) forest (inl few) =
    over_nodes s axis asks near (from ∷ []) (length from.path) (is_some from.attribute) forest (one_is_flat from)
loop_is_flat s axis asks near (x ∷ y ∷ xs) forest (inl few) = absurd few
loop_is_flat s axis asks near xs forest (inr flat) =
    subst (λ (ys : Items). GivesFlatValue (stepped_from_each s axis asks [] ys forest)) (sym flat.are)
    (over_nodes s axis asks near flat.nodes flat.depth flat.attributes forest flat.flat)
