-- What functions over items answer.
use Rattle.std.proofs.Common.{◌≡◌, ◌≤◌, ℕ, zero, suc, ◌+◌, ℤ, pos, ◌+ℤ◌, Bool, true, false, List, [], ◌∷◌, ◌++◌, length, get_or, map, reverse, Option, None, Some, refl, sym, ◌∙◌, ap, arith}
use Rattle.std.specs.Prelude.{if◌then◌else◌, int_le}
use Rattle.std.specs.Option.{option_map}
use Rattle.std.proofs.lemmas.List.{map-append, reverse-append}
use Rattle.gx_base.specs.declared.code.Code.TheVariants.{FORG0003}
use Rattle.gx_base.specs.declared.name.Name.{Name}
use Rattle.gx_facets.specs.declared.Atomic.{Atomic}
use Rattle.gx_num.specs.declared.Number.{Number}
use Rattle.gx_types.specs.SchemaSet.{SchemaSet}
use Rattle.gx_funcs.specs.declared.function.Function.{Function}
use Rattle.gx_funcs.specs.declared.text_function.TextFunction.{TextFunction}
use Rattle.gx_funcs.specs.declared.value_function.ValueFunction.{ValueFunction}
use Rattle.gx_funcs.specs.declared.item_function.ItemFunction.{ItemFunction}
use Rattle.gx_funcs.specs.declared.item_function.ItemFunction.TheVariants as functions
use Rattle.gx_funcs.specs.Function.{string_atom, text_function_of, value_function_of, item_function_of}
use Rattle.gx_funcs.specs.Numbers.{number_of_value}
use Rattle.gx_funcs.specs.Positions.{nearest_whole, stands_within, within_positions, from_position, so_many_from, is_position, all_but, with_before, without_position, inserted_before}
use Rattle.gx_tree.specs.PlainTree.{PlainTree, document, element, attribute, text}
use Rattle.gx_model.specs.Forest.{Forest, PlainNode, node_in, then_found}
use Rattle.gx_model.specs.Item.{Item, atom, node, Items}
use Rattle.gx_core.specs.Calling.{called, called_as}
use Rattle.gx_core.specs.ItemCalling.{text_of_name, name_of_items, roots_of_items, number_of_items, integer_of_items, at_most_one_item, at_least_one_item, string_item, item_answer, item_called}
use Rattle.gx_core.specs.Outcome.{Outcome, gives, raises, wrong, given}
use Rattle.gx_core.specs.Ranging.{integer_of_item}
use Rattle.gx_store.specs.declared.item.Item.{Item as StoreItem}
use Rattle.gx_store.specs.declared.item.Item.TheVariants.{Atom, Node}
use Rattle.gx_store.specs.Items.{items_in}
use Rattle.gx_store.specs.Stored.{name_of_tree}
use Rattle.gx_machine.specs.ItemAnswers.{text_found, name_answered, roots_answered}
use Rattle.gx_machine.specs.OneItem.{only_atom, only_node}

-- ---- names and roots

-- of one node
pub name_of_one : (made : Name → List ℕ) (forest : Forest) (xs : Items) (place : PlainNode) → only_node xs ≡ Some place → name_of_items made forest xs ≡ option_map (text_of_name made) (node_in forest place)
name_of_one made forest [] place e = absurd (cc)
name_of_one made forest (atom a ∷ []) place e = absurd (cc)
name_of_one made forest (node m ∷ []) place e = let same : m ≡ place = cc in ap (λ (p : PlainNode). option_map (text_of_name made) (node_in forest p)) same
name_of_one made forest (atom a ∷ y ∷ xs) place e = absurd (cc)
name_of_one made forest (node m ∷ y ∷ xs) place e = absurd (cc)

pub root_of_one : (forest : Forest) (xs : Items) (place : PlainNode) → only_node xs ≡ Some place → roots_answered forest xs ≡ roots_answered forest (node place ∷ [])
root_of_one forest [] place e = absurd (cc)
root_of_one forest (atom a ∷ []) place e = absurd (cc)
root_of_one forest (node m ∷ []) place e = let same : m ≡ place = cc in ap (λ (p : PlainNode). roots_answered forest (node p ∷ [])) same
root_of_one forest (atom a ∷ y ∷ xs) place e = absurd (cc)
root_of_one forest (node m ∷ y ∷ xs) place e = absurd (cc)

-- of items that are no node
pub no_name_of_others : (made : Name → List ℕ) (forest later : Forest) (items : List StoreItem) → 1 ≤ length items → only_node (items_in later items) ≡ None → name_of_items made forest (items_in later items) ≡ None
no_name_of_others made forest later [] h e = absurd (omega (arith, h))
no_name_of_others made forest later (Atom a ∷ []) h e = refl
no_name_of_others made forest later (Node m ∷ []) h e = absurd (cc)
no_name_of_others made forest later (Atom a ∷ y ∷ items) h e = refl
no_name_of_others made forest later (Node m ∷ y ∷ items) h e = refl

pub no_root_of_others : (forest later : Forest) (items : List StoreItem) → 1 ≤ length items → only_node (items_in later items) ≡ None → roots_answered forest (items_in later items) ≡ wrong
no_root_of_others forest later [] h e = absurd (omega (arith, h))
no_root_of_others forest later (Atom a ∷ []) h e = refl
no_root_of_others forest later (Node m ∷ []) h e = absurd (cc)
no_root_of_others forest later (Atom a ∷ y ∷ items) h e = refl
no_root_of_others forest later (Node m ∷ y ∷ items) h e = refl

pub name_answer_is : (made : Name → List ℕ) (forest : Forest) (xs : Items) (t : List ℕ) (a : Atomic) → name_of_items made forest xs ≡ Some t → a ≡ string_atom t → name_answered made forest xs ≡ gives (atom a ∷ []) forest
name_answer_is made forest xs t a e f = ap (λ (o : Option (List ℕ)). given o (λ u. gives (string_item u) forest)) e ∙ ap (λ (b : Atomic). gives (atom b ∷ []) forest) (sym f)

-- ---- one number, and one integer

pub number_is : (xs : Items) (a : Atomic) → only_atom xs ≡ Some a → number_of_value a.value ≡ number_of_items xs
number_is [] a e = absurd (cc)
number_is (node place ∷ []) a e = absurd (cc)
number_is (atom b ∷ []) a e = let same : b ≡ a = cc in ap (λ (c : Atomic). number_of_value c.value) (sym same)
number_is (atom b ∷ y ∷ xs) a e = absurd (cc)
number_is (node place ∷ y ∷ xs) a e = absurd (cc)

pub number_is_none : (xs : Items) → only_atom xs ≡ None → None ≡ number_of_items xs
number_is_none [] e = refl
number_is_none (node place ∷ []) e = refl
number_is_none (atom a ∷ []) e = absurd (cc)
number_is_none (atom a ∷ y ∷ xs) e = refl
number_is_none (node place ∷ y ∷ xs) e = refl

pub integer_is : (xs : Items) (a : Atomic) → only_atom xs ≡ Some a → integer_of_item (atom a) ≡ integer_of_items xs
integer_is [] a e = absurd (cc)
integer_is (node place ∷ []) a e = absurd (cc)
integer_is (atom b ∷ []) a e = let same : b ≡ a = cc in ap (λ (c : Atomic). integer_of_item (atom c)) (sym same)
integer_is (atom b ∷ y ∷ xs) a e = absurd (cc)
integer_is (node place ∷ y ∷ xs) a e = absurd (cc)

pub integer_is_none : (xs : Items) → only_atom xs ≡ None → None ≡ integer_of_items xs
integer_is_none [] e = refl
integer_is_none (node place ∷ []) e = refl
integer_is_none (atom a ∷ []) e = absurd (cc)
integer_is_none (atom a ∷ y ∷ xs) e = refl
integer_is_none (node place ∷ y ∷ xs) e = refl

-- ---- what stands at positions of a list, and of the list that is made of it

within : {A B : Type 0} (f : A → B) (least : ℤ) (limit : Option ℤ) (position : ℤ) (xs : List A) → within_positions least limit position (map f xs) ≡ map f (within_positions least limit position xs)
within f least limit position [] = refl
within {A} {B} f least limit position (x ∷ xs) = by (stands_within least limit position) (within f least limit (position +ℤ pos 1) xs)
  where
    by : (b : Bool) → within_positions least limit (position +ℤ pos 1) (map f xs) ≡ map f (within_positions least limit (position +ℤ pos 1) xs)
        → (if b then f x ∷ within_positions least limit (position +ℤ pos 1) (map f xs) else within_positions least limit (position +ℤ pos 1) (map f xs))
        ≡ map f (if b then x ∷ within_positions least limit (position +ℤ pos 1) xs else within_positions least limit (position +ℤ pos 1) xs)
    by true e = ap (λ ys. f x ∷ ys) e
    by false e = e

pub from_position_of_map : {A B : Type 0} (f : A → B) (start : Number) (xs : List A) → from_position start (map f xs) ≡ map f (from_position start xs)
from_position_of_map f start xs = within f (nearest_whole start) None (pos 1) xs

pub so_many_from_of_map : {A B : Type 0} (f : A → B) (start count : Number) (xs : List A) → so_many_from start count (map f xs) ≡ map f (so_many_from start count xs)
so_many_from_of_map f start count xs = within f (nearest_whole start) (Some (nearest_whole start +ℤ nearest_whole count)) (pos 1) xs

but : {A B : Type 0} (f : A → B) (removed position : ℤ) (xs : List A) → all_but removed position (map f xs) ≡ map f (all_but removed position xs)
but f removed position [] = refl
but {A} {B} f removed position (x ∷ xs) = by (is_position removed position) (but f removed (position +ℤ pos 1) xs)
  where
    by : (b : Bool) → all_but removed (position +ℤ pos 1) (map f xs) ≡ map f (all_but removed (position +ℤ pos 1) xs)
        → (if b then map f xs else f x ∷ all_but removed (position +ℤ pos 1) (map f xs)) ≡ map f (if b then xs else x ∷ all_but removed (position +ℤ pos 1) xs)
    by true e = refl
    by false e = ap (λ ys. f x ∷ ys) e

pub without_position_of_map : {A B : Type 0} (f : A → B) (removed : ℤ) (xs : List A) → without_position removed (map f xs) ≡ map f (without_position removed xs)
without_position_of_map f removed xs = but f removed (pos 1) xs

put_before : {A B : Type 0} (f : A → B) (next position : ℤ) (others xs : List A) → with_before next position (map f others) (map f xs) ≡ map f (with_before next position others xs)
put_before f next position others [] = refl
put_before {A} {B} f next position others (x ∷ xs) = by (int_le next position) (put_before f next (position +ℤ pos 1) others xs)
  where
    by : (b : Bool) → with_before next (position +ℤ pos 1) (map f others) (map f xs) ≡ map f (with_before next (position +ℤ pos 1) others xs)
        → (if b then map f others ++ (f x ∷ map f xs) else f x ∷ with_before next (position +ℤ pos 1) (map f others) (map f xs))
        ≡ map f (if b then others ++ (x ∷ xs) else x ∷ with_before next (position +ℤ pos 1) others xs)
    by true e = sym (map-append f others (x ∷ xs))
    by false e = ap (λ ys. f x ∷ ys) e

pub inserted_before_of_map : {A B : Type 0} (f : A → B) (next : ℤ) (others xs : List A) → inserted_before next (map f others) (map f xs) ≡ map f (inserted_before next others xs)
inserted_before_of_map f next others xs = put_before f next (pos 1) others xs

-- ---- calls

pub over_items_called : (s : SchemaSet) (function : Function) (over_items : ItemFunction) (arguments : List Items) (forest : Forest)
    → text_function_of function ≡ None → value_function_of function ≡ None → item_function_of function ≡ Some over_items → called s function arguments forest ≡ item_called s over_items arguments forest
over_items_called s function over_items arguments forest e f g =
    ap (λ (o : Option TextFunction). called_as o (value_function_of function) (item_function_of function) s function arguments forest) e
    ∙ ap (λ (o : Option ValueFunction). called_as None o (item_function_of function) s function arguments forest) f
    ∙ ap (λ (o : Option ItemFunction). called_as None None o s function arguments forest) g

-- of no argument, and of one

pub called_with_none : (s : SchemaSet) (function : ItemFunction) (forest : Forest) → item_called s function [] forest ≡ item_answer function [] forest
called_with_none s functions.Error forest = refl
called_with_none s functions.Name forest = refl
called_with_none s functions.LocalName forest = refl
called_with_none s functions.Root forest = refl
called_with_none s functions.Reverse forest = refl
called_with_none s functions.SubsequenceFrom forest = refl
called_with_none s functions.Subsequence forest = refl
called_with_none s functions.Remove forest = refl
called_with_none s functions.InsertBefore forest = refl
called_with_none s functions.ZeroOrOne forest = refl
called_with_none s functions.OneOrMore forest = refl
called_with_none s functions.ExactlyOne forest = refl
called_with_none s functions.DeepEqual forest = refl

pub called_with_one : (s : SchemaSet) (function : ItemFunction) (xs : Items) (forest : Forest) → item_called s function (xs ∷ []) forest ≡ item_answer function (xs ∷ []) forest
called_with_one s functions.Error xs forest = refl
called_with_one s functions.Name xs forest = refl
called_with_one s functions.LocalName xs forest = refl
called_with_one s functions.Root xs forest = refl
called_with_one s functions.Reverse xs forest = refl
called_with_one s functions.SubsequenceFrom xs forest = refl
called_with_one s functions.Subsequence xs forest = refl
called_with_one s functions.Remove xs forest = refl
called_with_one s functions.InsertBefore xs forest = refl
called_with_one s functions.ZeroOrOne xs forest = refl
called_with_one s functions.OneOrMore xs forest = refl
called_with_one s functions.ExactlyOne xs forest = refl
called_with_one s functions.DeepEqual xs forest = refl

-- no function has four arguments
pub none_of_four : (function : ItemFunction) (arguments : List Items) (forest : Forest) → 4 ≤ length arguments → item_answer function arguments forest ≡ wrong
none_of_four function [] forest h = absurd (omega (arith, h))
none_of_four function (a ∷ []) forest h = absurd (omega (arith, h))
none_of_four function (a ∷ b ∷ []) forest h = absurd (omega (arith, h))
none_of_four function (a ∷ b ∷ c ∷ []) forest h = absurd (omega (arith, h))
none_of_four functions.Name (a ∷ b ∷ c ∷ d ∷ others) forest h = refl
none_of_four functions.LocalName (a ∷ b ∷ c ∷ d ∷ others) forest h = refl
none_of_four functions.Root (a ∷ b ∷ c ∷ d ∷ others) forest h = refl
none_of_four functions.Reverse (a ∷ b ∷ c ∷ d ∷ others) forest h = refl
none_of_four functions.SubsequenceFrom (a ∷ b ∷ c ∷ d ∷ others) forest h = refl
none_of_four functions.Subsequence (a ∷ b ∷ c ∷ d ∷ others) forest h = refl
none_of_four functions.Remove (a ∷ b ∷ c ∷ d ∷ others) forest h = refl
none_of_four functions.InsertBefore (a ∷ b ∷ c ∷ d ∷ others) forest h = refl
none_of_four functions.ZeroOrOne (a ∷ b ∷ c ∷ d ∷ others) forest h = refl
none_of_four functions.OneOrMore (a ∷ b ∷ c ∷ d ∷ others) forest h = refl
none_of_four functions.ExactlyOne (a ∷ b ∷ c ∷ d ∷ others) forest h = refl
none_of_four functions.DeepEqual (a ∷ b ∷ c ∷ d ∷ others) forest h = refl
none_of_four functions.Error (a ∷ b ∷ c ∷ d ∷ others) forest h = refl

-- ---- how many items there are

pub too_many_items : (xs : Items) (forest : Forest) → 2 ≤ length xs → at_most_one_item xs forest ≡ raises FORG0003
too_many_items [] forest h = absurd (omega (arith, h))
too_many_items (x ∷ []) forest h = absurd (omega (arith, h))
too_many_items (x ∷ y ∷ xs) forest h = refl

pub enough_items : (xs : Items) (forest : Forest) → 1 ≤ length xs → at_least_one_item xs forest ≡ gives xs forest
enough_items [] forest h = absurd (omega (arith, h))
enough_items (x ∷ xs) forest h = refl

-- ---- items from the last one on

pub reverse_of_map : {A B : Type 0} (f : A → B) (xs : List A) → reverse (map f xs) ≡ map f (reverse xs)
reverse_of_map f [] = refl
reverse_of_map f (x ∷ xs) =
    reverse-append (f x ∷ []) (map f xs) ∙ ap (λ ys. ys ++ f x ∷ []) (reverse_of_map f xs)
    ∙ sym (map-append f (reverse xs) (x ∷ [])) ∙ sym (ap (map f) (reverse-append (x ∷ []) xs))

-- ---- the name and the root of a node

-- of a node that is there
name_there : (made : Name → List ℕ) (t : PlainTree) → text_of_name made t ≡ text_found made (name_of_tree t)
name_there made (document ts) = refl
name_there made (element name kind attributes ts) = refl
name_there made (attribute a) = refl
name_there made (text t) = refl

pub name_is : (made : Name → List ℕ) (place : PlainNode) (forest : Forest) (t : PlainTree) (name : Option Name) → node_in forest place ≡ Some t → name ≡ then_found (node_in forest place) name_of_tree
    → option_map (text_of_name made) (node_in forest place) ≡ Some (text_found made name)
name_is made place forest t name e h =
    ap (option_map (text_of_name made)) e
    ∙ ap (λ (u : List ℕ). Some u) (name_there made t ∙ sym (ap (text_found made) (h ∙ ap (λ (o : Option PlainTree). then_found o name_of_tree) e)))

-- of one that is not
pub no_name_is : (made : Name → List ℕ) (place : PlainNode) (forest : Forest) (next : List ℕ → Outcome Items) → node_in forest place ≡ None → given (option_map (text_of_name made) (node_in forest place)) next ≡ wrong
no_name_is made place forest next e = ap (λ (o : Option PlainTree). given (option_map (text_of_name made) o) next) e

-- ---- lists of two and of three

pub the_pair : {A : Type 0} (xs : List A) (x y : A) → length xs ≡ 2 → x ≡ get_or xs 0 x → y ≡ get_or xs 1 y → xs ≡ x ∷ y ∷ []
the_pair [] x y l e f = absurd (omega (arith, l))
the_pair (a ∷ []) x y l e f = absurd (omega (arith, l))
the_pair (a ∷ b ∷ []) x y l e f = λ i. sym e i ∷ sym f i ∷ []
the_pair (a ∷ b ∷ c ∷ xs) x y l e f = absurd (omega (arith, l))

pub the_three : {A : Type 0} (xs : List A) (x y z : A) → length xs ≡ 3 → x ≡ get_or xs 0 x → y ≡ get_or xs 1 y → z ≡ get_or xs 2 z → xs ≡ x ∷ y ∷ z ∷ []
the_three [] x y z l e f g = absurd (omega (arith, l))
the_three (a ∷ []) x y z l e f g = absurd (omega (arith, l))
the_three (a ∷ b ∷ []) x y z l e f g = absurd (omega (arith, l))
the_three (a ∷ b ∷ c ∷ []) x y z l e f g = λ i. sym e i ∷ sym f i ∷ sym g i ∷ []
the_three (a ∷ b ∷ c ∷ d ∷ xs) x y z l e f g = absurd (omega (arith, l))
