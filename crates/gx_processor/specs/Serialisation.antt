-- The text in which a value leaves the program (Serialization, section 2).
use Rattle.std.specs.Prelude.{ℕ, List, [], map, Option, None, Some}
use Rattle.std.specs.Str.{encode_utf8_all}
use Rattle.gx_facets.specs.Value.{printed_value}
use Rattle.gx_tree.specs.PlainTree.{PlainTree}
use Rattle.gx_serial.specs.declared.item.SerialItem.{SerialItem}
use Rattle.gx_serial.specs.declared.item.SerialItem.TheVariants.{Text, Tree}
use Rattle.gx_serial.specs.Answer.{answer_text}
use Rattle.gx_model.specs.Forest.{Forest, node_in}
use Rattle.gx_model.specs.Item.{Item, atom, node, Items}

-- a node as an item of the answer: its tree; the forest has each node of a value
abbrev pub node_item : Option PlainTree → SerialItem
node_item (Some t) = Tree t
node_item None = Text []

-- an atomic value is its text
abbrev pub serial_item : Forest → Item → SerialItem
serial_item forest (atom a) = Text (printed_value a.value)
serial_item forest (node place) = node_item (node_in forest place)

abbrev pub serialised : Forest → Items → List ℕ
serialised forest items = encode_utf8_all (answer_text (map (serial_item forest) items))
