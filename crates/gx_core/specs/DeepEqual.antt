-- When items are deep-equal (Functions and Operators, section 15.3.1).
use Rattle.std.specs.Prelude.{Bool, true, false, ◌&&◌, [], ◌∷◌}
use Rattle.gx_funcs.specs.Distinct.{are_equal_values}
use Rattle.gx_model.specs.DeepEqual.{are_equal_nodes}
use Rattle.gx_model.specs.Forest.{Forest}
use Rattle.gx_model.specs.Item.{Item, atom, node, Items}

-- two values that are equal, or two nodes; a value is equal to no node
abbrev pub are_equal_items : Forest → Item → Item → Bool
are_equal_items forest (atom a) (atom b) = are_equal_values a b
are_equal_items forest (node place) (node other) = are_equal_nodes forest place other
are_equal_items forest _ _ = false

-- item by item, and as many
abbrev pub are_deep_equal : Forest → Items → Items → Bool
are_deep_equal forest [] [] = true
are_deep_equal forest (x ∷ xs) (y ∷ ys) = are_equal_items forest x y && are_deep_equal forest xs ys
are_deep_equal forest _ _ = false
