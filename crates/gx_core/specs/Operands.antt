-- Operators over at most one item of each operand (XQuery 1.0, section 3.4).
use Rattle.std.specs.Prelude.{[], ◌∷◌}
use Rattle.gx_model.specs.Forest.{Forest}
use Rattle.gx_model.specs.Item.{Item, Items}
use Rattle.gx_core.specs.Outcome.{Outcome, gives, wrong}

-- nothing of an empty operand; an operand of more than one item is a type error
abbrev pub on_one : Items → Forest → (Item → Forest → Outcome Items) → Outcome Items
on_one [] forest next = gives [] forest
on_one (x ∷ []) forest next = next x forest
on_one (x ∷ y ∷ xs) forest next = wrong

-- nothing where an operand is empty; an operand of more than one item is a type error
abbrev pub on_two : Items → Items → Forest → (Item → Item → Forest → Outcome Items) → Outcome Items
on_two [] [] forest next = gives [] forest
on_two [] (y ∷ []) forest next = gives [] forest
on_two (x ∷ []) [] forest next = gives [] forest
on_two (x ∷ []) (y ∷ []) forest next = next x y forest
on_two _ _ forest next = wrong
