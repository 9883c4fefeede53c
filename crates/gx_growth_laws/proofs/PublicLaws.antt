-- The public laws as terms, for the proofs of the crates above.
use Rattle.std.proofs.Common.{◌≡◌, refl, List, [], ◌∷◌, Option, None, Some, subst}
use Rattle.std.specs.Option.{option_map}
use Rattle.gx_types.specs.declared.shape.Shape.{Shape}
use Rattle.gx_types.specs.SchemaSet.{SchemaSet}
use Rattle.gx_tree.specs.PlainTree.{PlainTree}
use Rattle.gx_model.specs.Belongs.{shape_of, item_shape, HaveShapes}
use Rattle.gx_model.specs.Forest.{Forest, PlainNode, node_in}
use Rattle.gx_model.specs.Growth.{Extends}
use Rattle.gx_model.specs.Item.{Item, atom, node, Items}
use Rattle.gx_core.specs.Meaning.{meaning}
use Rattle.gx_core.specs.Outcome.{gives}
use Rattle.gx_growth_laws.specs.Steady.{HasNode, IsThere, AreThere, SteadyExpressionsStay, ValuesOfTypesAreThere, WhatIsThereStays}
use Rattle.gx_growth_laws.proofs.ListFacts.{every_so}
use Rattle.gx_growth_laws.proofs.GrownForests.{node_stays}
use Rattle.gx_growth_laws.proofs.StayingExpressions.{expression_stays}
use Rattle.gx_growth_laws.proofs.StayingOutcomes.{Stays}

pub steady_expressions_stay : (A : Type 0) → SteadyExpressionsStay A
steady_expressions_stay A context x bindings before now value left makes there e h =
    let s : Stays (AreThere before) before now (gives value left) (meaning context x bindings now) =
    subst (λ o. Stays (AreThere before) before now o (meaning context x bindings now)) h (expression_stays context before now e x makes bindings there) in
    record { kept = s.0; there = s.1; same = s.2 }

-- ---- values of types

shown_there : (forest : Forest) (place : PlainNode) (s : Shape) → option_map shape_of (node_in forest place) ≡ Some s → HasNode forest place
shown_there forest place s e = by_found (node_in forest place) refl e
  where
    by_found : (found : Option PlainTree) → node_in forest place ≡ found → option_map shape_of found ≡ Some s → HasNode forest place
    by_found None f g = absurd (cc)
    by_found (Some t) f g = record { tree = t; found = f }

shape_there : (forest : Forest) (x : Item) (s : Shape) → item_shape forest x ≡ Some s → IsThere forest x
shape_there forest (atom a) s e = tt
shape_there forest (node place) s e = shown_there forest place s e

shapes_there : (schemas : SchemaSet) (forest : Forest) (xs : Items) (ss : List Shape) → HaveShapes schemas forest xs ss → AreThere forest xs
shapes_there schemas forest [] ss h = tt
shapes_there schemas forest (x ∷ xs) [] h = absurd h
shapes_there schemas forest (x ∷ xs) (s ∷ ss) h = (shape_there forest x s h.0, shapes_there schemas forest xs ss h.2)

pub values_of_types_are_there : ValuesOfTypesAreThere
values_of_types_are_there schemas forest value t b = shapes_there schemas forest value b.seen b.shaped

-- ---- what is there stays

item_stays : (before now : Forest) → Extends before now → (x : Item) → IsThere before x → IsThere now x
item_stays before now e (atom a) h = tt
item_stays before now e (node place) h = node_stays before now e place h

items_stay : (before now : Forest) → Extends before now → (xs : Items) → AreThere before xs → AreThere now xs
items_stay before now e xs h = every_so (IsThere before) (IsThere now) xs (item_stays before now e) h

pub what_is_there_stays : WhatIsThereStays
what_is_there_stays = record {
  values = λ before now value e h. items_stay before now e value h;
  bindings = λ before now bindings e h.
      every_so (λ binding. AreThere before binding.1) (λ binding. AreThere now binding.1) bindings
      (λ binding there. items_stay before now e binding.1 there) h;
}
