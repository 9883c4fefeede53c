-- Calls of built-in functions with arguments that are there stay where the forest grows.
use Rattle.std.proofs.Common.{◌≡◌, ℕ, Bool, ◌&&◌, List, [], ◌∷◌, map, Option, None, Some, Ok, Err, refl, sym, ap, subst}
use Rattle.std.specs.Prelude.{option_map, pos, ◌+ℤ◌, Result}
use Rattle.gx_base.specs.declared.code.Code.{Code}
use Rattle.gx_base.specs.declared.name.Name.{Name}
use Rattle.gx_facets.specs.declared.Atomic.{Atomic}
use Rattle.gx_funcs.specs.declared.function.Function.{Function}
use Rattle.gx_funcs.specs.declared.item_function.ItemFunction.{ItemFunction}
use Rattle.gx_funcs.specs.declared.item_function.ItemFunction.TheVariants as functions
use Rattle.gx_funcs.specs.declared.text_function.TextFunction.{TextFunction}
use Rattle.gx_funcs.specs.declared.value_function.ValueFunction.{ValueFunction}
use Rattle.gx_funcs.specs.Function.{node_view, truth_atom, applied, text_function_of, value_function_of, item_function_of, item_parameters_of, value_parameters_of}
use Rattle.gx_funcs.specs.Positions.{nearest_whole, from_position, so_many_from, without_position, inserted_before}
use Rattle.gx_funcs.specs.Texts.{text_answer}
use Rattle.gx_funcs.specs.Values.{value_answer}
use Rattle.gx_types.specs.SchemaSet.{SchemaSet}
use Rattle.gx_model.specs.DeepEqual.{are_equal_found}
use Rattle.gx_model.specs.Forest.{Forest}
use Rattle.gx_model.specs.Growth.{Extends}
use Rattle.gx_model.specs.Item.{Item, atom, node, Items}
use Rattle.gx_model.specs.Roots.{root_of}
use Rattle.gx_model.specs.TypedValue.{found_string_value}
use Rattle.gx_core.specs.Arguments.{arguments_by, all_argument_values}
use Rattle.gx_core.specs.Calling.{view_of, views_of, answered, all_argument_texts, text_called, value_called, called_as, called}
use Rattle.gx_core.specs.DeepEqual.{are_equal_items, are_deep_equal}
use Rattle.gx_core.specs.ItemCalling.{lexical_name, text_of_name, name_of_items, roots_of_items, number_of_items, integer_of_items, at_most_one_item, at_least_one_item, only_item, string_item, item_answer, item_called}
use Rattle.gx_core.specs.Outcome.{gives, given}
use Rattle.gx_growth_laws.specs.Steady.{IsThere, AreThere}
use Rattle.gx_growth_laws.proofs.GrownForests.{same_tree, root_there, atoms_there}
use Rattle.gx_growth_laws.proofs.ListFacts.{every_reversed, every_within, every_but, every_before}
use Rattle.gx_growth_laws.proofs.StayingArguments.{AllThere, stay_arguments, stay_values, same_texts}
use Rattle.gx_growth_laws.proofs.StayingItems.{FoundThere}
use Rattle.gx_growth_laws.proofs.StayingOperators.{ItemsStay}
use Rattle.gx_growth_laws.proofs.StayingOutcomes.{stays_after, stays_given, stays_so}

module _ (before now : Forest) (e : Extends before now) where
  -- ---- what functions see of items

  same_view : (x : Item) → IsThere before x → view_of now x ≡ view_of before x
  same_view (atom a) h = refl
  same_view (node place) h = ap (λ found. node_view (found_string_value found)) (same_tree before now e place h)

  same_views : (xs : Items) → AreThere before xs → views_of now xs ≡ views_of before xs
  same_views [] h = refl
  same_views (x ∷ xs) h = let first = same_view x h.0 in let rest = same_views xs h.1 in λ i. first i ∷ rest i

  all_views_same : (values : List Items) → AllThere before values → map (views_of now) values ≡ map (views_of before) values
  all_views_same [] h = refl
  all_views_same (xs ∷ values) h = let first = same_views xs h.0 in let rest = all_views_same values h.1 in λ i. first i ∷ rest i

  -- ---- names, roots and deep-equal items

  same_name : (made : Name → List ℕ) (xs : Items) → AreThere before xs → name_of_items made now xs ≡ name_of_items made before xs
  same_name made [] h = refl
  same_name made (node place ∷ []) h = ap (option_map (text_of_name made)) (same_tree before now e place h.0)
  same_name made (node place ∷ y ∷ xs) h = refl
  same_name made (atom a ∷ xs) h = refl

  same_roots : (xs : Items) → AreThere before xs → roots_of_items now xs ≡ roots_of_items before xs
  same_roots [] h = refl
  same_roots (node place ∷ []) h =
      ap (λ found. option_map (λ root. node root ∷ []) (option_map (λ t. root_of place) found)) (same_tree before now e place h.0)
  same_roots (node place ∷ y ∷ xs) h = refl
  same_roots (atom a ∷ xs) h = refl

  some_roots_there : (xs : Items) → AreThere before xs → FoundThere before (roots_of_items before xs)
  some_roots_there [] h = tt
  some_roots_there (node place ∷ []) h =
      subst (λ found. FoundThere before (option_map (λ root. node root ∷ []) (option_map (λ t. root_of place) found))) (sym h.0.found)
      (root_there before place h.0, tt)
  some_roots_there (node place ∷ y ∷ xs) h = tt
  some_roots_there (atom a ∷ xs) h = tt

  roots_there : (xs roots : Items) → AreThere before xs → roots_of_items before xs ≡ Some roots → AreThere before roots
  roots_there xs roots h f = subst (FoundThere before) f (some_roots_there xs h)

  equal_too : (x y : Item) → IsThere before x → IsThere before y → are_equal_items now x y ≡ are_equal_items before x y
  equal_too (atom a) (atom b) h k = refl
  equal_too (node place) (node other) h k =
      let one = same_tree before now e place h in
      let two = same_tree before now e other k in
      λ i. are_equal_found (one i) (two i)
  equal_too (atom a) (node other) h k = refl
  equal_too (node place) (atom b) h k = refl

  deep_equal_too : (xs ys : Items) → AreThere before xs → AreThere before ys → are_deep_equal now xs ys ≡ are_deep_equal before xs ys
  deep_equal_too [] [] h k = refl
  deep_equal_too (x ∷ xs) (y ∷ ys) h k =
      let first = equal_too x y h.0 k.0 in
      let rest = deep_equal_too xs ys h.1 k.1 in
      λ i. first i && rest i
  deep_equal_too [] (y ∷ ys) h k = refl
  deep_equal_too (x ∷ xs) [] h k = refl

  -- ---- functions over items

  stays_at_most : (xs : Items) → AreThere before xs → ItemsStay before now (at_most_one_item xs before) (at_most_one_item xs now)
  stays_at_most [] h = (refl, tt, refl)
  stays_at_most (x ∷ []) h = (refl, h, refl)
  stays_at_most (x ∷ y ∷ xs) h = tt

  stays_at_least : (xs : Items) → AreThere before xs → ItemsStay before now (at_least_one_item xs before) (at_least_one_item xs now)
  stays_at_least [] h = tt
  stays_at_least (x ∷ xs) h = (refl, h, refl)

  stays_only : (xs : Items) → AreThere before xs → ItemsStay before now (only_item xs before) (only_item xs now)
  stays_only [] h = tt
  stays_only (x ∷ []) h = (refl, h, refl)
  stays_only (x ∷ y ∷ xs) h = tt

  stays_item_answer : (function : ItemFunction) (arguments : List Items) → AllThere before arguments
      → ItemsStay before now (item_answer function arguments before) (item_answer function arguments now)
  stays_item_answer functions.Name (xs ∷ []) h =
      stays_given before now (AreThere before) (λ forest. name_of_items lexical_name forest xs) (λ t forest. gives (string_item t) forest)
      (same_name lexical_name xs h.0) (λ t f. (refl, (tt, tt), refl))
  stays_item_answer functions.LocalName (xs ∷ []) h =
      stays_given before now (AreThere before) (λ forest. name_of_items (λ name. name.local) forest xs) (λ t forest. gives (string_item t) forest)
      (same_name (λ name. name.local) xs h.0) (λ t f. (refl, (tt, tt), refl))
  stays_item_answer functions.Root (xs ∷ []) h =
      stays_given before now (AreThere before) (λ forest. roots_of_items forest xs) (λ roots forest. gives roots forest) (same_roots xs h.0)
      (λ roots f. (refl, roots_there xs roots h.0 f, refl))
  stays_item_answer functions.Reverse (xs ∷ []) h = (refl, every_reversed (IsThere before) xs h.0, refl)
  stays_item_answer functions.SubsequenceFrom (xs ∷ ys ∷ []) h =
      stays_given before now (AreThere before) (λ forest. number_of_items ys) (λ start forest. gives (from_position start xs) forest) refl
      (λ start f. (refl, every_within (IsThere before) (nearest_whole start) None (pos 1) xs h.0, refl))
  stays_item_answer functions.Subsequence (xs ∷ ys ∷ zs ∷ []) h =
      stays_given before now (AreThere before) (λ forest. number_of_items ys)
      (λ start forest. given (number_of_items zs) (λ count. gives (so_many_from start count xs) forest)) refl
      (λ start f. stays_given before now (AreThere before) (λ forest. number_of_items zs) (λ count forest. gives (so_many_from start count xs) forest) refl
      (λ count g. (refl, every_within (IsThere before) (nearest_whole start) (Some (nearest_whole start +ℤ nearest_whole count)) (pos 1) xs h.0, refl)))
  stays_item_answer functions.Remove (xs ∷ ys ∷ []) h =
      stays_given before now (AreThere before) (λ forest. integer_of_items ys) (λ position forest. gives (without_position position xs) forest) refl
      (λ position f. (refl, every_but (IsThere before) position (pos 1) xs h.0, refl))
  stays_item_answer functions.InsertBefore (xs ∷ ys ∷ zs ∷ []) h =
      stays_given before now (AreThere before) (λ forest. integer_of_items ys) (λ position forest. gives (inserted_before position zs xs) forest) refl
      (λ position f. (refl, every_before (IsThere before) position (pos 1) zs xs h.1.1.0 h.0, refl))
  stays_item_answer functions.ZeroOrOne (xs ∷ []) h = stays_at_most xs h.0
  stays_item_answer functions.OneOrMore (xs ∷ []) h = stays_at_least xs h.0
  stays_item_answer functions.ExactlyOne (xs ∷ []) h = stays_only xs h.0
  stays_item_answer functions.DeepEqual (xs ∷ ys ∷ []) h =
      stays_so before now (AreThere before) (λ forest. atom (truth_atom (are_deep_equal forest xs ys)) ∷ [])
      (ap (λ (b : Bool). atom (truth_atom b) ∷ []) (deep_equal_too xs ys h.0 h.1.0)) (tt, tt)
  stays_item_answer functions.Error [] h = tt
  stays_item_answer _ _ h = tt

  -- ---- calls

  stays_answered : (answer : Result (List Atomic) Code) → ItemsStay before now (answered answer before) (answered answer now)
  stays_answered (Ok values) = (refl, atoms_there before values, refl)
  stays_answered (Err code) = tt

  stays_text_called : (schemas : SchemaSet) (function : TextFunction) (values : List Items) → AllThere before values
      → ItemsStay before now (text_called schemas function values before) (text_called schemas function values now)
  stays_text_called schemas function values h =
      stays_given before now (AreThere before) (λ forest. all_argument_texts schemas forest values)
      (λ texts forest. given (text_answer function texts) (λ answer. gives (atom answer ∷ []) forest)) (same_texts before now e schemas values h)
      (λ texts f. stays_given before now (AreThere before) (λ forest. text_answer function texts) (λ answer forest. gives (atom answer ∷ []) forest) refl
      (λ answer g. (refl, (tt, tt), refl)))

  stays_value_called : (schemas : SchemaSet) (function : ValueFunction) (values : List Items) → AllThere before values
      → ItemsStay before now (value_called schemas function values before) (value_called schemas function values now)
  stays_value_called schemas function values h =
      stays_after before now (λ (found : List (List Atomic)). Unit {0}) (AreThere before)
      (λ forest. all_argument_values schemas (value_parameters_of function) values forest)
      (λ found left. given (value_answer function found) (λ answer. answered answer left))
      (stay_values before now e schemas (value_parameters_of function) values h)
      (λ found there. stays_given before now (AreThere before) (λ forest. value_answer function found) (λ answer forest. answered answer forest) refl
      (λ answer f. stays_answered answer))

  stays_item_called : (schemas : SchemaSet) (function : ItemFunction) (values : List Items) → AllThere before values
      → ItemsStay before now (item_called schemas function values before) (item_called schemas function values now)
  stays_item_called schemas function values h =
      stays_after before now (AllThere before) (AreThere before) (λ forest. arguments_by schemas (item_parameters_of function) values forest)
      (λ seen left. item_answer function seen left) (stay_arguments before now e schemas (item_parameters_of function) values h)
      (stays_item_answer function)

  stays_called_as : (over_texts : Option TextFunction) (over_values : Option ValueFunction) (over_items : Option ItemFunction) (schemas : SchemaSet)
      (function : Function) (values : List Items) → AllThere before values
      → ItemsStay before now (called_as over_texts over_values over_items schemas function values before)
      (called_as over_texts over_values over_items schemas function values now)
  stays_called_as (Some texts) over_values over_items schemas function values h = stays_text_called schemas texts values h
  stays_called_as None (Some over_values) over_items schemas function values h = stays_value_called schemas over_values values h
  stays_called_as None None (Some over_items) schemas function values h = stays_item_called schemas over_items values h
  stays_called_as None None None schemas function values h =
      stays_given before now (AreThere before) (λ forest. applied function (map (views_of forest) values)) (λ answer forest. answered answer forest)
      (ap (applied function) (all_views_same values h)) (λ answer f. stays_answered answer)

  pub stays_called : (schemas : SchemaSet) (function : Function) (values : List Items) → AllThere before values
      → ItemsStay before now (called schemas function values before) (called schemas function values now)
  stays_called schemas function values h =
      stays_called_as (text_function_of function) (value_function_of function) (item_function_of function) schemas function values h
