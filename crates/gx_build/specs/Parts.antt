-- Parts of content, each a list of items of a store, as items of its forest.
use Rattle.std.specs.Global.{Global}
use Rattle.std.specs.Prelude.{List, map, Vec}
use Rattle.gx_model.specs.Forest.{Forest}
use Rattle.gx_model.specs.Item.{Items}
use Rattle.gx_store.specs.declared.item.Item.{Item}
use Rattle.gx_store.specs.Items.{items_in}

abbrev pub parts_in : Forest → List (Vec Item Global) → List Items
parts_in forest = map (λ (part : Vec Item Global). items_in forest part.items)
