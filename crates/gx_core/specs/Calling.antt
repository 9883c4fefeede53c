-- Calls of built-in functions (XQuery 1.0, section 3.1.5).
use Rattle.std.specs.Prelude.{ℕ, List, [], ◌∷◌, map, Option, None, Some, option_map, Result, Ok, Err}
use Rattle.gx_base.specs.declared.code.Code.{Code}
use Rattle.gx_facets.specs.declared.Atomic.{Atomic}
use Rattle.gx_funcs.specs.declared.function.Function.{Function}
use Rattle.gx_facets.specs.Value.{printed_value}
use Rattle.gx_types.specs.SchemaSet.{SchemaSet}
use Rattle.gx_funcs.specs.declared.text_function.TextFunction.{TextFunction}
use Rattle.gx_funcs.specs.declared.value_function.ValueFunction.{ValueFunction}
use Rattle.gx_funcs.specs.declared.item_function.ItemFunction.{ItemFunction}
use Rattle.gx_funcs.specs.Function.{ItemView, atomic_view, node_view, applied, text_function_of, value_function_of, item_function_of, value_parameters_of}
use Rattle.gx_funcs.specs.Texts.{text_answer}
use Rattle.gx_funcs.specs.Values.{value_answer}
use Rattle.gx_model.specs.Atomization.{atomized}
use Rattle.gx_model.specs.Forest.{Forest, node_in}
use Rattle.gx_model.specs.Item.{Item, atom, node, Items, atoms}
use Rattle.gx_model.specs.TypedValue.{found_string_value}
use Rattle.gx_core.specs.Arguments.{all_argument_values}
use Rattle.gx_core.specs.ItemCalling.{item_called}
use Rattle.gx_core.specs.Outcome.{Outcome, gives, raises, wrong, after, given}

-- an item as a function looks at it; the string value of a node that the forest has not is empty
abbrev pub view_of : Forest → Item → ItemView
view_of forest (atom a) = atomic_view a
view_of forest (node place) = node_view (found_string_value (node_in forest place))

abbrev pub views_of : Forest → Items → List ItemView
views_of forest = map (view_of forest)

abbrev pub answered : Result (List Atomic) Code → Forest → Outcome Items
answered (Ok items) forest = gives (atoms items) forest
answered (Err code) forest = raises code

-- ---- functions over strings, whose arguments are atomized (XQuery 1.0, section 3.1.5): an untyped value stands for the string of its
-- characters

abbrev pub text_of_value : Item → List ℕ
text_of_value (atom a) = printed_value a.value
text_of_value (node place) = []

-- the texts of the typed values of an argument, if it has any
abbrev pub argument_texts : SchemaSet → Forest → Items → Option (List (List ℕ))
argument_texts schemas forest items = option_map (map text_of_value) (atomized schemas forest items)

abbrev pub texts_behind : Option (List (List ℕ)) → Option (List (List (List ℕ))) → Option (List (List (List ℕ)))
texts_behind None others = None
texts_behind (Some texts) None = None
texts_behind (Some texts) (Some others) = Some (texts ∷ others)

abbrev pub all_argument_texts : SchemaSet → Forest → List Items → Option (List (List (List ℕ)))
all_argument_texts schemas forest [] = Some []
all_argument_texts schemas forest (value ∷ values) = texts_behind (argument_texts schemas forest value) (all_argument_texts schemas forest values)

abbrev pub text_called : SchemaSet → TextFunction → List Items → Forest → Outcome Items
text_called schemas function values forest =
    given (all_argument_texts schemas forest values) (λ texts. given (text_answer function texts) (λ answer. gives (atom answer ∷ []) forest))

-- ---- functions over atomic values

abbrev pub value_called : SchemaSet → ValueFunction → List Items → Forest → Outcome Items
value_called schemas function arguments forest =
    after (all_argument_values schemas (value_parameters_of function) arguments forest)
    (λ values left. given (value_answer function values) (λ answer. answered answer left))

-- ---- calls

-- a function by its kind: over strings, over atomic values, over items, or one that looks at its arguments as items of one kind
abbrev pub called_as : Option TextFunction → Option ValueFunction → Option ItemFunction → SchemaSet → Function → List Items → Forest → Outcome Items
called_as (Some texts) over_values over_items schemas function values forest = text_called schemas texts values forest
called_as None (Some over_values) over_items schemas function values forest = value_called schemas over_values values forest
called_as None None (Some over_items) schemas function values forest = item_called schemas over_items values forest
called_as None None None schemas function values forest =
    given (applied function (map (views_of forest) values)) (λ answer. answered answer forest)

-- what a function makes of its arguments
abbrev pub called : SchemaSet → Function → List Items → Forest → Outcome Items
called schemas function values forest =
    called_as (text_function_of function) (value_function_of function) (item_function_of function) schemas function values forest
