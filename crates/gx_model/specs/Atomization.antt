-- Atomization (XQuery 1.0, section 2.4.2).
use Rattle.std.specs.Prelude.{[], ◌∷◌, ◌++◌, Option, Some, None, option_map}
use Rattle.gx_types.specs.SchemaSet.{SchemaSet}
use Rattle.gx_model.specs.Forest.{Forest}
use Rattle.gx_model.specs.Item.{Item, atom, node, Items, atoms}
use Rattle.gx_model.specs.TypedValue.{value_of_node}

-- the typed values of an item, if it has any: an atomic value is its own
abbrev pub values_of_item : SchemaSet → Forest → Item → Option Items
values_of_item schemas forest (atom a) = Some (atom a ∷ [])
values_of_item schemas forest (node place) = option_map atoms (value_of_node schemas forest place)

abbrev pub joined_values : Option Items → Option Items → Option Items
joined_values None others = None
joined_values (Some items) None = None
joined_values (Some items) (Some others) = Some (items ++ others)

-- the typed values of items one behind another, where each item has some
abbrev pub atomized : SchemaSet → Forest → Items → Option Items
atomized schemas forest [] = Some []
atomized schemas forest (item ∷ items) = joined_values (values_of_item schemas forest item) (atomized schemas forest items)
