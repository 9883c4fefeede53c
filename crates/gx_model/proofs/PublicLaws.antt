-- Values stay where the forest grows.
use Rattle.std.proofs.Common.{◌≡◌, ℕ, zero, suc, List, [], ◌∷◌, ◌++◌, Option, None, Some, refl, sym, ◌∙◌, ap, subst, append_assoc}
use Rattle.std.specs.List.{slice_get}
use Rattle.std.specs.Option.{option_map}
use Rattle.gx_types.specs.declared.shape.Shape.{Shape}
use Rattle.gx_types.specs.SchemaSet.{SchemaSet}
use Rattle.gx_tree.specs.PlainTree.{PlainTree}
use Rattle.gx_model.specs.Forest.{Forest, PlainNode, then_found, tree_at, attribute_at, node_in}
use Rattle.gx_model.specs.Item.{Item, atom, node, Items}
use Rattle.gx_model.specs.Belongs.{shape_of, item_shape, HaveShapes, Belongs}
use Rattle.gx_model.specs.Growth.{GrowthIsAnOrder, ValuesStay}

nothing_added : (forest : Forest) → forest ≡ forest ++ []
nothing_added [] = refl
nothing_added (t ∷ ts) = ap (λ us. t ∷ us) (nothing_added ts)

pub growth_is_an_order : GrowthIsAnOrder
growth_is_an_order = record {
  reflexive = λ forest. record { more = []; is = nothing_added forest };
  transitive = λ first second third e f. record {
    more = e.more ++ f.more;
    is = f.is ∙ ap (λ ts. ts ++ f.more) e.is ∙ append_assoc first e.more f.more;
  };
}

-- a tree keeps its number
tree_stays : (before more : Forest) (number : ℕ) (t : PlainTree) → slice_get before number ≡ Some t → slice_get (before ++ more) number ≡ Some t
tree_stays [] more number t e = cc
tree_stays (u ∷ us) more zero t e = e
tree_stays (u ∷ us) more (suc number) t e = tree_stays us more number t e

found_stays : (before more : Forest) (number : ℕ) (next : PlainTree → Option PlainTree) (found : Option PlainTree) (t : PlainTree)
    → slice_get before number ≡ found → then_found found next ≡ Some t → then_found (slice_get (before ++ more) number) next ≡ Some t
found_stays before more number next None t e f = cc
found_stays before more number next (Some u) t e f = ap (λ o. then_found o next) (tree_stays before more number u e) ∙ f

node_stays : (before more : Forest) (place : PlainNode) (t : PlainTree) → node_in before place ≡ Some t → node_in (before ++ more) place ≡ Some t
node_stays before more place t e =
    found_stays before more place.tree (λ u. then_found (tree_at u place.path) (attribute_at place.attribute)) (slice_get before place.tree) t refl e

shown_stays : (before more : Forest) (place : PlainNode) (s : Shape) (found : Option PlainTree)
    → node_in before place ≡ found → option_map shape_of found ≡ Some s → option_map shape_of (node_in (before ++ more) place) ≡ Some s
shown_stays before more place s None e f = cc
shown_stays before more place s (Some t) e f = ap (option_map shape_of) (node_stays before more place t e) ∙ f

shape_stays : (before more : Forest) (x : Item) (s : Shape) → item_shape before x ≡ Some s → item_shape (before ++ more) x ≡ Some s
shape_stays before more (atom a) s e = e
shape_stays before more (node place) s e = shown_stays before more place s (node_in before place) refl e

shapes_stay : (schemas : SchemaSet) (before more : Forest) (xs : Items) (ss : List Shape) → HaveShapes schemas before xs ss → HaveShapes schemas (before ++ more) xs ss
shapes_stay schemas before more [] [] h = tt
shapes_stay schemas before more [] (s ∷ ss) h = absurd h
shapes_stay schemas before more (x ∷ xs) [] h = absurd h
shapes_stay schemas before more (x ∷ xs) (s ∷ ss) h = (shape_stays before more x s h.0, h.1, shapes_stay schemas before more xs ss h.2)

pub values_stay : ValuesStay
values_stay schemas before now xs t e b =
    subst (λ forest. Belongs schemas forest xs t) (sym e.is)
    (record { seen = b.seen; shaped = shapes_stay schemas before e.more xs b.seen b.shaped; taken = b.taken })
