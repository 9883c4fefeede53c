-- Content in the making: trees that are done, and behind them a text that may go on.
use Rattle.std.specs.Prelude.{ℕ, Bool, true, false, List, [], ◌∷◌, ◌++◌, Option, None, Some}
use Rattle.std.specs.Option.{option_map}
use Rattle.gx_facets.specs.Value.{printed_value}
use Rattle.gx_tree.specs.PlainTree.{PlainTree, text}
use Rattle.gx_model.specs.Forest.{Forest, node_in}
use Rattle.gx_nodes.specs.Entries.{place_of_number}
use Rattle.gx_store.specs.declared.item.Item.{Item}
use Rattle.gx_store.specs.declared.item.Item.TheVariants.{Atom, Node}
use Rattle.gx_core.specs.Constructing.{copies_of, joined_content, text_before, merged_content}
use Rattle.gx_build.specs.declared.content.Content.{Content}

-- what the content comes to with nodes behind it
abbrev pub content_seen : Content → List PlainTree → List PlainTree
content_seen c rest = c.trees.items ++ text_before c.pending (merged_content rest)

-- nodes that are there, with others behind them
abbrev pub merged_with : Option (List PlainTree) → List PlainTree → Option (List PlainTree)
merged_with found rest = option_map (λ (ts : List PlainTree). merged_content (ts ++ rest)) found

-- the same behind the content
abbrev pub content_with : Content → Option (List PlainTree) → List PlainTree → Option (List PlainTree)
content_with c found rest = option_map (λ (ts : List PlainTree). content_seen c (ts ++ rest)) found

-- what the content comes to, if all of it is there
abbrev pub content_if : Bool → Content → List PlainTree → Option (List PlainTree)
content_if false c rest = None
content_if true c rest = Some (content_seen c rest)

-- a space, behind another value
abbrev pub space_if : Bool → List ℕ
space_if false = []
space_if true = 32 ∷ []

-- a text that is not empty, as a node
abbrev pub text_if : List ℕ → List PlainTree
text_if [] = []
text_if (c ∷ x) = text (c ∷ x) ∷ []

abbrev pub is_atom : Item → Bool
is_atom (Atom value) = true
is_atom (Node m) = false

-- what one item gives, behind another value or not
abbrev pub item_content : (behind_value : Bool) → Forest → Item → Option (List PlainTree)
item_content behind_value forest (Atom value) = Some (text (space_if behind_value ++ printed_value value.value) ∷ [])
item_content behind_value forest (Node m) = option_map copies_of (node_in forest (place_of_number forest m.number))

abbrev pub items_content : (behind_value : Bool) → Forest → List Item → Option (List PlainTree)
items_content behind_value forest [] = Some []
items_content behind_value forest (item ∷ items) = joined_content (item_content behind_value forest item) (items_content (is_atom item) forest items)
