-- Items of a store as items of its forest.
use Rattle.std.specs.Prelude.{List, map}
use Rattle.gx_model.specs.Forest.{Forest}
use Rattle.gx_model.specs.Item.{Item as PlainItem, atom, node, Items}
use Rattle.gx_nodes.specs.Entries.{place_of_number}
use Rattle.gx_store.specs.declared.item.Item.{Item}
use Rattle.gx_store.specs.declared.item.Item.TheVariants.{Atom, Node}

abbrev pub item_in : Forest → Item → PlainItem
item_in forest (Atom value) = atom value
item_in forest (Node m) = node (place_of_number forest m.number)

abbrev pub items_in : Forest → List Item → Items
items_in forest = map (item_in forest)
