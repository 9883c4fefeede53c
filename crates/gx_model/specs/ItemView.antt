-- The item that a Rust item stands for.
use Rattle.gx_model.specs.declared.item.ItemForm.{ItemForm}
use Rattle.gx_model.specs.declared.item.ItemForm.TheVariants.{Atom, Node}
use Rattle.gx_model.specs.Item.{Item, atom, node}

abbrev pub item_of : ItemForm → Item
item_of (Atom value) = atom value
item_of (Node place) = node place
