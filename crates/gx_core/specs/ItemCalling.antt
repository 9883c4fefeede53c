-- Calls of functions over items (Functions and Operators, sections 3, 14, 15.1, 15.2 and 15.3).
use Rattle.std.specs.Prelude.{ℕ, ℤ, List, [], ◌∷◌, ◌++◌, reverse, Option, None, Some, option_map}
use Rattle.gx_base.specs.declared.code.Code.TheVariants.{FORG0003, FORG0004, FORG0005, FOER0000}
use Rattle.gx_base.specs.declared.name.Name.{Name}
use Rattle.gx_num.specs.declared.Number.{Number}
use Rattle.gx_types.specs.SchemaSet.{SchemaSet}
use Rattle.gx_tree.specs.PlainTree.{PlainTree, element, attribute}
use Rattle.gx_funcs.specs.declared.item_function.ItemFunction.{ItemFunction}
use Rattle.gx_funcs.specs.declared.item_function.ItemFunction.TheVariants as functions
use Rattle.gx_funcs.specs.Function.{string_atom, truth_atom, item_parameters_of}
use Rattle.gx_funcs.specs.Positions.{from_position, so_many_from, without_position, inserted_before}
use Rattle.gx_model.specs.Forest.{Forest, node_in}
use Rattle.gx_model.specs.Item.{atom, node, Items}
use Rattle.gx_model.specs.Roots.{root_in}
use Rattle.gx_core.specs.Arguments.{arguments_by}
use Rattle.gx_core.specs.Arithmetic.{number_of_item}
use Rattle.gx_core.specs.DeepEqual.{are_deep_equal}
use Rattle.gx_core.specs.Outcome.{Outcome, gives, raises, wrong, after, given}
use Rattle.gx_core.specs.Ranging.{integer_of_item}

-- ---- names and roots

-- a local part behind a prefix and a colon, or alone where the prefix is empty
abbrev pub behind_prefix : (prefix : List ℕ) → (local : List ℕ) → List ℕ
behind_prefix [] local = local
behind_prefix (c ∷ prefix) local = (c ∷ prefix) ++ 58 ∷ local

-- the lexical form of a name
abbrev pub lexical_name : Name → List ℕ
lexical_name name = behind_prefix name.prefix name.local

-- the text that is made of the name of a tree, which is empty where it has none
abbrev pub text_of_name : (Name → List ℕ) → PlainTree → List ℕ
text_of_name made (element name kind attributes ts) = made name
text_of_name made (attribute a) = made a.name
text_of_name made _ = []

-- of at most one node
abbrev pub name_of_items : (Name → List ℕ) → Forest → Items → Option (List ℕ)
name_of_items made forest [] = Some []
name_of_items made forest (node place ∷ []) = option_map (text_of_name made) (node_in forest place)
name_of_items made forest _ = None

-- the root of at most one node
abbrev pub roots_of_items : Forest → Items → Option Items
roots_of_items forest [] = Some []
roots_of_items forest (node place ∷ []) = option_map (λ root. node root ∷ []) (root_in forest place)
roots_of_items forest _ = None

-- ---- positions

-- one number, and one integer
abbrev pub number_of_items : Items → Option Number
number_of_items (x ∷ []) = number_of_item x
number_of_items _ = None

abbrev pub integer_of_items : Items → Option ℤ
integer_of_items (x ∷ []) = integer_of_item x
integer_of_items _ = None

-- ---- how many items there are

abbrev pub at_most_one_item : Items → Forest → Outcome Items
at_most_one_item (x ∷ y ∷ xs) forest = raises FORG0003
at_most_one_item xs forest = gives xs forest

abbrev pub at_least_one_item : Items → Forest → Outcome Items
at_least_one_item [] forest = raises FORG0004
at_least_one_item (x ∷ xs) forest = gives (x ∷ xs) forest

abbrev pub only_item : Items → Forest → Outcome Items
only_item (x ∷ []) forest = gives (x ∷ []) forest
only_item _ forest = raises FORG0005

-- ---- calls

abbrev pub string_item : List ℕ → Items
string_item t = atom (string_atom t) ∷ []

-- what a function answers of its arguments
abbrev pub item_answer : ItemFunction → List Items → Forest → Outcome Items
item_answer functions.Name (xs ∷ []) forest = given (name_of_items lexical_name forest xs) (λ t. gives (string_item t) forest)
item_answer functions.LocalName (xs ∷ []) forest = given (name_of_items (λ name. name.local) forest xs) (λ t. gives (string_item t) forest)
item_answer functions.Root (xs ∷ []) forest = given (roots_of_items forest xs) (λ roots. gives roots forest)
item_answer functions.Reverse (xs ∷ []) forest = gives (reverse xs) forest
item_answer functions.SubsequenceFrom (xs ∷ ys ∷ []) forest = given (number_of_items ys) (λ start. gives (from_position start xs) forest)
item_answer functions.Subsequence (xs ∷ ys ∷ zs ∷ []) forest =
    given (number_of_items ys) (λ start. given (number_of_items zs) (λ count. gives (so_many_from start count xs) forest))
item_answer functions.Remove (xs ∷ ys ∷ []) forest = given (integer_of_items ys) (λ position. gives (without_position position xs) forest)
item_answer functions.InsertBefore (xs ∷ ys ∷ zs ∷ []) forest = given (integer_of_items ys) (λ position. gives (inserted_before position zs xs) forest)
item_answer functions.ZeroOrOne (xs ∷ []) forest = at_most_one_item xs forest
item_answer functions.OneOrMore (xs ∷ []) forest = at_least_one_item xs forest
item_answer functions.ExactlyOne (xs ∷ []) forest = only_item xs forest
item_answer functions.DeepEqual (xs ∷ ys ∷ []) forest = gives (atom (truth_atom (are_deep_equal forest xs ys)) ∷ []) forest
item_answer functions.Error [] forest = raises FOER0000
item_answer _ _ forest = wrong

abbrev pub item_called : SchemaSet → ItemFunction → List Items → Forest → Outcome Items
item_called schemas function arguments forest =
    after (arguments_by schemas (item_parameters_of function) arguments forest) (λ seen left. item_answer function seen left)
