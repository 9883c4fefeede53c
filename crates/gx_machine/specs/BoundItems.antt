-- What a variable is bound to, and values at hand, in a forest in which numbers stand for nodes.
use Rattle.std.specs.Prelude.{ℕ, List, [], ◌∷◌, map}
use Rattle.gx_model.specs.Forest.{Forest}
use Rattle.gx_model.specs.Item.{Items}
use Rattle.gx_core.specs.Meaning.{Bindings}
use Rattle.gx_store.specs.Items.{item_in, items_in}
use Rattle.gx_machine.specs.declared.bound.Bound.{Bound}
use Rattle.gx_machine.specs.declared.bound.Bound.TheVariants.{One, Many}
use Rattle.gx_machine.specs.declared.hand.AtHand.{AtHand}
use Rattle.gx_machine.specs.declared.hand.AtHand.TheVariants.{One as OneAtHand, There}

abbrev pub bound_items : Forest → Bound → Items
bound_items later (One item) = item_in later item ∷ []
bound_items later (Many items) = items_in later items.value.items

-- the values of arguments
abbrev pub bounds_in : Forest → List Bound → List Items
bounds_in later = map (bound_items later)

-- the values of each binding
abbrev pub items_of : Forest → List (ℕ × Bound) → Bindings
items_of later = map (λ binding. (binding.0, bound_items later binding.1))

-- the items of a value at hand
abbrev pub hand_items : Forest → AtHand → Items
hand_items later (OneAtHand item) = item_in later item ∷ []
hand_items later (There items) = items_in later items.now
