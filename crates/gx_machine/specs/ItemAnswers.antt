-- What functions over items make of their arguments.
use Rattle.std.specs.Prelude.{ℕ, List, [], map, Option, None, Some}
use Rattle.gx_base.specs.declared.name.Name.{Name}
use Rattle.gx_model.specs.Forest.{Forest}
use Rattle.gx_model.specs.Item.{Items}
use Rattle.gx_core.specs.ItemCalling.{name_of_items, roots_of_items, string_item}
use Rattle.gx_core.specs.Outcome.{Outcome, gives, given}
use Rattle.gx_store.specs.Items.{items_in}
use Rattle.gx_machine.specs.declared.item_calling.Argument.{Argument}
use Rattle.gx_machine.specs.declared.item_calling.Argument.TheVariants.{AsItIs, Converted}

-- the text that is made of a name, which is empty where there is none
abbrev pub text_found : (Name → List ℕ) → Option Name → List ℕ
text_found made None = []
text_found made (Some name) = made name

abbrev pub name_answered : (Name → List ℕ) → Forest → Items → Outcome Items
name_answered made forest xs = given (name_of_items made forest xs) (λ t. gives (string_item t) forest)

abbrev pub roots_answered : Forest → Items → Outcome Items
roots_answered forest xs = given (roots_of_items forest xs) (λ roots. gives roots forest)

-- the items of an argument, and those of several
abbrev pub argument_items : Forest → Argument → Items
argument_items forest (AsItIs items) = items_in forest items.now
argument_items forest (Converted items) = items_in forest items.items

abbrev pub items_of_arguments : Forest → List Argument → List Items
items_of_arguments forest = map (argument_items forest)
