-- What the part of an operator comes to, and what a loop binds for it.
use Rattle.std.specs.Prelude.{ℕ, pos, List, [], ◌∷◌}
use Rattle.gx_funcs.specs.Function.{integer_atom}
use Rattle.gx_model.specs.Forest.{Forest}
use Rattle.gx_model.specs.Item.{Item, atom, Items}
use Rattle.gx_core.specs.Bindings.{position_bound}
use Rattle.gx_core.specs.Outcome.{Outcome}

abbrev pub Bindings : Type 0
Bindings = List (ℕ × Items)

-- what a part comes to, under bindings and in a forest
abbrev pub Denotation : Type 0
Denotation = Bindings → Forest → Outcome Items

-- what a loop binds in a turn: an item, and the number of the item where its position has a variable
abbrev pub item_bound : (variable position number : ℕ) → Item → Bindings
item_bound variable position number x = (variable, x ∷ []) ∷ position_bound position (atom (integer_atom (pos number)) ∷ [])
