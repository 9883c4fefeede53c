-- Nodes of honest forests, and their roots, belong to node().
use Rattle.std.proofs.Common.{◌≡◌, ℕ, ◌≤◌, true, List, [], ◌∷◌, length, Option, None, Some, refl, ap, arith, inl, inr}
use Rattle.std.specs.List.{slice_get}
use Rattle.std.specs.Option.{option_map}
use Rattle.gx_base.specs.declared.name.Name.{Name}
use Rattle.gx_types.specs.declared.shape.Shape.{Shape}
use Rattle.gx_types.specs.declared.shape.Shape.TheVariants as shapes
use Rattle.gx_types.specs.SchemaSet.{SchemaSet}
use Rattle.gx_types.specs.SchemaInvariant.{IsSchemaSet}
use Rattle.gx_types.specs.SequenceType.{SequenceType}
use Rattle.gx_types.specs.Takes.{Takes}
use Rattle.gx_include.specs.Decision.{is_included}
use Rattle.gx_tree.specs.PlainTree.{PlainTree, document, element, attribute, text}
use Rattle.gx_model.specs.Forest.{Forest, PlainNode, then_found, tree_at, attribute_at, node_in}
use Rattle.gx_model.specs.Honest.{IsHonestTree, IsHonest}
use Rattle.gx_model.specs.Item.{Item, atom, node, Items}
use Rattle.gx_model.specs.Belongs.{shape_of, HaveShapes, Belongs}
use Rattle.gx_model.specs.Roots.{root_of}
use Rattle.gx_core.specs.ItemCalling.{text_of_name, name_of_items, roots_of_items}
use Rattle.gx_steptype.specs.StepType.{node_type}
use Rattle.gx_steptype.proofs.FormedShapes.{IsFormed}
use Rattle.gx_steptype.proofs.HonestNodes.{shape_is_formed, tree_is_honest}
use Rattle.gx_static.specs.Rule.{optional_node}
use Rattle.gx_static.proofs.HonestValues.{included_belongs}
use Rattle.gx_static.proofs.ItemLemmas.{EachItem, IsNode, items_are_nodes}
use Rattle.gx_static.proofs.Singles.{few_items}

-- ---- a root

tree_taken : (s : SchemaSet) (t : PlainTree) → IsFormed s (shape_of t) → Takes s node_type (shape_of t ∷ [])
tree_taken s (document ts) f = inl (inl (inl (shape_of (document ts), refl, tt)))
tree_taken s (element n k l ts) f = inl (inl (inr (shapes.Elem n k, refl, (refl, f))))
tree_taken s (attribute a) f = inl (inr (shapes.Attr a.name a.kind, refl, (refl, f)))
tree_taken s (text x) f = inr (shapes.Text, refl, tt)

tree_of_node : (forest : Forest) (place : PlainNode) (found : Option PlainTree) (t : PlainTree) → slice_get forest place.tree ≡ found
    → then_found found (λ root. then_found (tree_at root place.path) (attribute_at place.attribute)) ≡ Some t → (root : PlainTree) × (slice_get forest place.tree ≡ Some root)
tree_of_node forest place None t e f = absurd (cc)
tree_of_node forest place (Some root) t e f = (root, e)

pub root_belongs : (s : SchemaSet) → IsSchemaSet s → (forest : Forest) (place : PlainNode) (t : PlainTree) → IsHonest s forest → node_in forest place ≡ Some t → Belongs s forest (node (root_of place) ∷ []) node_type
root_belongs s is forest place t honest e =
    let root = tree_of_node forest place (slice_get forest place.tree) t refl e in
    let honest_root : IsHonestTree s root.0 = tree_is_honest s forest place.tree root.0 honest root.1 in
    record {
      seen = shape_of root.0 ∷ [];
      shaped = (ap (λ (found : Option PlainTree). option_map shape_of (then_found found (λ u. then_found (tree_at u []) (attribute_at None)))) root.1, tt, tt);
      taken = tree_taken s root.0 (shape_is_formed s is root.0 honest_root.typed);
    }

-- ---- at most one node

-- there is none, or one that the forest has
pub data FewNodes (forest : Forest) : Items → Type 0 where
  no_node : FewNodes forest []
  one_node : (place : PlainNode) (t : PlainTree) → node_in forest place ≡ Some t → FewNodes forest (node place ∷ [])

found_tree : (found : Option PlainTree) (shape : Shape) → option_map shape_of found ≡ Some shape → (t : PlainTree) × (found ≡ Some t)
found_tree None shape e = absurd (cc)
found_tree (Some t) shape e = (t, refl)

nodes_found : (s : SchemaSet) (forest : Forest) (xs : Items) (ss : List Shape) → length xs ≤ 1 → EachItem IsNode xs → HaveShapes s forest xs ss → FewNodes forest xs
nodes_found s forest [] ss l k h = no_node
nodes_found s forest (atom a ∷ []) ss l k h = absurd (cc k.0.1)
nodes_found s forest (node place ∷ []) [] l k h = absurd h
nodes_found s forest (node place ∷ []) (shape ∷ ss) l k h = let t = found_tree (node_in forest place) shape h.0 in one_node place t.0 t.1
nodes_found s forest (x ∷ y ∷ xs) ss l k h = absurd (omega (arith, l))

pub few_nodes : (s : SchemaSet) → IsSchemaSet s → (forest : Forest) (xs : Items) (t : SequenceType) → IsHonest s forest → is_included s t optional_node ≡ true → Belongs s forest xs t → FewNodes forest xs
few_nodes s is forest xs t honest e b =
    let c = included_belongs s forest xs t optional_node is.grounded honest e b in
    nodes_found s forest xs c.seen (few_items s forest optional_node xs refl c) (items_are_nodes s forest xs optional_node refl c) c.shaped

-- it has a name, which may be empty, and a root
pub name_there : (made : Name → List ℕ) (forest : Forest) (xs : Items) → FewNodes forest xs → (t : List ℕ) × (name_of_items made forest xs ≡ Some t)
name_there made forest xs no_node = ([], refl)
name_there made forest xs (one_node place t e) = (text_of_name made t, ap (λ (found : Option PlainTree). option_map (text_of_name made) found) e)

pub roots_there : (forest : Forest) (place : PlainNode) (t : PlainTree) → node_in forest place ≡ Some t → roots_of_items forest (node place ∷ []) ≡ Some (node (root_of place) ∷ [])
roots_there forest place t e = ap (λ (found : Option PlainTree). option_map (λ root. node root ∷ []) (option_map (λ t. root_of place) found)) e
