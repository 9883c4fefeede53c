-- Calls of functions that raise nothing, of arguments that are converted without a cast.
use Rattle.std.proofs.Common.{◌≡◌, Bool, true, false, not, ◌&&◌, List, [], ◌∷◌, ◌++◌, map, Option, None, Some, Ok, Err, refl, sym, ap, subst, if◌then◌else◌}
use Rattle.std.specs.Prelude.{option_map}
use Rattle.std.proofs.lemmas.Bool.{and_parts}
use Rattle.gx_base.specs.declared.type_name.Builtin.TheVariants as builtins
use Rattle.gx_base.specs.declared.type_name.TypeName.{TypeName}
use Rattle.gx_base.specs.declared.type_name.TypeName.TheVariants as names
use Rattle.gx_facets.specs.declared.Atomic.{Atomic}
use Rattle.gx_facets.specs.declared.AtomValue.{AtomValue}
use Rattle.gx_facets.specs.declared.AtomValue.TheVariants as values
use Rattle.gx_types.specs.Derivation.{DerivesFrom}
use Rattle.gx_types.specs.SchemaSet.{SchemaSet}
use Rattle.gx_types.specs.SchemaInvariant.{IsSchemaSet}
use Rattle.gx_types.specs.SequenceType.{SequenceType}
use Rattle.gx_steptype.specs.DataType.{has_data, type_of_data}
use Rattle.gx_atomic.specs.Cast.{cast_of}
use Rattle.gx_atomic.specs.declared.comparison.Op.TheVariants.{Lt, Gt}
use Rattle.gx_funcs.specs.declared.function.Function.{Function}
use Rattle.gx_funcs.specs.declared.function.Function.TheVariants as functions
use Rattle.gx_funcs.specs.declared.function.Parameter.{Parameter}
use Rattle.gx_funcs.specs.declared.function.ParameterType.{ParameterType}
use Rattle.gx_funcs.specs.declared.function.ParameterType.TheVariants as parameters
use Rattle.gx_funcs.specs.declared.function.Conversion.TheVariants.{DataAndCast}
use Rattle.gx_funcs.specs.declared.text_function.TextFunction.{TextFunction}
use Rattle.gx_funcs.specs.declared.value_function.ValueFunction.{ValueFunction}
use Rattle.gx_funcs.specs.declared.value_function.ValueFunction.TheVariants as value_functions
use Rattle.gx_funcs.specs.declared.item_function.ItemFunction.{ItemFunction}
use Rattle.gx_funcs.specs.declared.item_function.ItemFunction.TheVariants as item_functions
use Rattle.gx_funcs.specs.Function.{ItemView, effective_boolean, string_of_items, one_answer, truth_atom, boolean_atom, string_atom, applied, value_parameters_of, item_parameters_of, parameters_of, conversion_of}
use Rattle.gx_funcs.specs.Numbers.{numbers_of_values, foremost_of}
use Rattle.gx_funcs.specs.Positions.{from_position, so_many_from, without_position, inserted_before}
use Rattle.gx_funcs.specs.Strings.{Nfc, codepoints_of, normalized_as}
use Rattle.gx_funcs.specs.Texts.{Text, text_answer}
use Rattle.gx_funcs.specs.Values.{ValueAnswer, answer_with, answers, compared, printed_values, string_or_empty, one_number_of, value_answer}
use Rattle.gx_model.specs.Atomization.{atomized}
use Rattle.gx_model.specs.Belongs.{ValueFits, Belongs}
use Rattle.gx_model.specs.Forest.{Forest}
use Rattle.gx_model.specs.Honest.{IsHonest}
use Rattle.gx_model.specs.Item.{Item, atom, Items}
use Rattle.gx_core.specs.Arguments.{argument_by, arguments_by, argument_values, all_argument_values}
use Rattle.gx_core.specs.Calling.{views_of, answered, all_argument_texts, called}
use Rattle.gx_core.specs.Casting.{cast_outcome}
use Rattle.gx_core.specs.Comparing.{atoms_among}
use Rattle.gx_core.specs.Converting.{is_untyped, is_any_atomic_type, item_converted, items_converted, converted_to}
use Rattle.gx_core.specs.ItemCalling.{lexical_name, name_of_items, roots_of_items, number_of_items, integer_of_items, string_item, item_answer}
use Rattle.gx_core.specs.Outcome.{gives, after, given}
use Rattle.gx_core.specs.Soundness.{AreOfTypes}
use Rattle.gx_static.specs.Rule.{is_atomic_in, all_items}
use Rattle.gx_steptype.proofs.DataTypes.{data_keeps_its_type}
use Rattle.gx_static.proofs.ItemLemmas.{EachItem, IsAtomIn, items_are_in}
use Rattle.gx_static.proofs.LiteralLemmas.{untyped_is_no_number, from_integer_is_a_number}
use Rattle.gx_rules.specs.Guards.{is_quiet_value_function, is_quiet_item_function, is_quiet_function, is_converted_quietly, are_converted_quietly}
use Rattle.gx_rule_laws.proofs.QuietOperators.{IsQuiet, quiet_after, quiet_given}

-- ---- conversions

-- integers are not cast
integer_stays : (s : SchemaSet) (x : Item) (forest : Forest) → IsAtomIn s builtins.Integer x
    → item_converted s (names.Builtin builtins.Integer) x forest ≡ gives (x ∷ []) forest
integer_stays s x forest a =
    subst (λ (y : Item). item_converted s (names.Builtin builtins.Integer) y forest ≡ gives (y ∷ []) forest) (sym a.is)
    (ap (λ (b : Bool). if b && not (is_any_atomic_type (names.Builtin builtins.Integer)) then cast_outcome (cast_of s a.value (names.Builtin builtins.Integer)) forest
    else gives (atom a.value ∷ []) forest) (not_untyped a.value.value a.value.kind a.fits a.derived))
  where
    not_untyped : (v : AtomValue) (kind : TypeName) → ValueFits s v kind → DerivesFrom s kind (names.Builtin builtins.Integer) → is_untyped v ≡ false
    not_untyped (values.Untyped t) kind f d = absurd (untyped_is_no_number s kind f (from_integer_is_a_number s kind d))
    not_untyped (values.Str t) kind f d = refl
    not_untyped (values.Truth b) kind f d = refl
    not_untyped (values.Num n) kind f d = refl

integers_stay : (s : SchemaSet) (xs : Items) (forest : Forest) → EachItem (IsAtomIn s builtins.Integer) xs
    → IsQuiet forest (items_converted s (names.Builtin builtins.Integer) xs forest)
integers_stay s [] forest h = refl
integers_stay s (x ∷ xs) forest h =
    quiet_after forest (item_converted s (names.Builtin builtins.Integer) x forest)
    (λ ys left. after (items_converted s (names.Builtin builtins.Integer) xs left) (λ zs last. gives (ys ++ zs) last))
    (subst (IsQuiet forest) (sym (integer_stays s x forest h.0)) refl)
    (λ ys. quiet_after forest (items_converted s (names.Builtin builtins.Integer) xs forest) (λ zs last. gives (ys ++ zs) last)
    (integers_stay s xs forest h.1) (λ zs. refl))

integer_argument : (s : SchemaSet) → IsSchemaSet s → (t : SequenceType) (xs : Items) (forest : Forest) → IsHonest s forest
    → is_converted_quietly s (DataAndCast builtins.Integer) t ≡ true → Belongs s forest xs t
    → IsQuiet forest (converted_to (Some (names.Builtin builtins.Integer)) s xs forest)
integer_argument s is t xs forest honest e b =
    let both = and_parts (has_data s t) (all_items (is_atomic_in s builtins.Integer) (type_of_data s t)) e in
    let typed = data_keeps_its_type s forest xs t is honest both.0 b in
    subst (λ (found : Option Items). IsQuiet forest (given found (λ ys. items_converted s (names.Builtin builtins.Integer) ys forest))) (sym typed.are)
    (integers_stay s typed.values forest (items_are_in s forest builtins.Integer typed.values (type_of_data s t) both.1 typed.belong))

quiet_argument : (s : SchemaSet) → IsSchemaSet s → (takes : ParameterType) (t : SequenceType) (xs : Items) (forest : Forest) → IsHonest s forest
    → is_converted_quietly s (conversion_of takes) t ≡ true → Belongs s forest xs t → IsQuiet forest (argument_by (conversion_of takes) s xs forest)
quiet_argument s is parameters.Items t xs forest honest e b = refl
quiet_argument s is parameters.OptionalItem t xs forest honest e b = refl
quiet_argument s is parameters.TruthValue t xs forest honest e b = refl
quiet_argument s is parameters.OptionalNode t xs forest honest e b = refl
quiet_argument s is parameters.Integers t xs forest honest e b = integer_argument s is t xs forest honest e b
quiet_argument s is parameters.OneInteger t xs forest honest e b = integer_argument s is t xs forest honest e b
quiet_argument s is _ t xs forest honest e b = quiet_given forest (atomized s forest xs) (λ ys. gives ys forest) (λ ys. refl)

quiet_seen : (s : SchemaSet) → IsSchemaSet s → (ps : List Parameter) (ts : List SequenceType) (arguments : List Items) (forest : Forest) → IsHonest s forest
    → are_converted_quietly s ps ts ≡ true → AreOfTypes s ts forest arguments → IsQuiet forest (arguments_by s ps arguments forest)
quiet_seen s is [] ts [] forest honest e b = refl
quiet_seen s is [] ts (xs ∷ arguments) forest honest e b = tt
quiet_seen s is (p ∷ ps) ts [] forest honest e b = tt
quiet_seen s is (p ∷ ps) [] (xs ∷ arguments) forest honest e b = absurd b
quiet_seen s is (p ∷ ps) (t ∷ ts) (xs ∷ arguments) forest honest e b =
    let both = and_parts (is_converted_quietly s (conversion_of p.takes) t) (are_converted_quietly s ps ts) e in
    quiet_after forest (argument_by (conversion_of p.takes) s xs forest)
    (λ ys left. after (arguments_by s ps arguments left) (λ others last. gives (ys ∷ others) last))
    (quiet_argument s is p.takes t xs forest honest both.0 b.0)
    (λ ys. quiet_after forest (arguments_by s ps arguments forest) (λ others last. gives (ys ∷ others) last)
    (quiet_seen s is ps ts arguments forest honest both.1 b.1) (λ others. refl))

quiet_values : (s : SchemaSet) → IsSchemaSet s → (ps : List Parameter) (ts : List SequenceType) (arguments : List Items) (forest : Forest) → IsHonest s forest
    → are_converted_quietly s ps ts ≡ true → AreOfTypes s ts forest arguments → IsQuiet forest (all_argument_values s ps arguments forest)
quiet_values s is [] ts [] forest honest e b = refl
quiet_values s is [] ts (xs ∷ arguments) forest honest e b = tt
quiet_values s is (p ∷ ps) ts [] forest honest e b = tt
quiet_values s is (p ∷ ps) [] (xs ∷ arguments) forest honest e b = absurd b
quiet_values s is (p ∷ ps) (t ∷ ts) (xs ∷ arguments) forest honest e b =
    let both = and_parts (is_converted_quietly s (conversion_of p.takes) t) (are_converted_quietly s ps ts) e in
    quiet_after forest (argument_values (conversion_of p.takes) s xs forest)
    (λ found left. after (all_argument_values s ps arguments left) (λ others last. gives (found ∷ others) last))
    (quiet_after forest (argument_by (conversion_of p.takes) s xs forest) (λ ys left. given (atoms_among ys) (λ found. gives found left))
    (quiet_argument s is p.takes t xs forest honest both.0 b.0)
    (λ ys. quiet_given forest (atoms_among ys) (λ found. gives found forest) (λ found. refl)))
    (λ found. quiet_after forest (all_argument_values s ps arguments forest) (λ others last. gives (found ∷ others) last)
    (quiet_values s is ps ts arguments forest honest both.1 b.1) (λ others. refl))

-- ---- functions over atomic values

-- values, or no answer
abbrev IsNoError : ValueAnswer → Type 0
IsNoError None = Unit {0}
IsNoError (Some (Ok items)) = Unit {0}
IsNoError (Some (Err code)) = ⊥

with_no_error : {A : Type 0} (x : Option A) (next : A → ValueAnswer) → ((found : A) → IsNoError (next found)) → IsNoError (answer_with x next)
with_no_error None next h = tt
with_no_error (Some found) next h = h found

compared_no_error : (ts us : List Text) → IsNoError (compared ts us)
compared_no_error [] [] = tt
compared_no_error (t ∷ []) [] = tt
compared_no_error [] (u ∷ []) = tt
compared_no_error (t ∷ []) (u ∷ []) = tt
compared_no_error _ _ = tt

no_error : (function : ValueFunction) (arguments : List (List Atomic)) → is_quiet_value_function function ≡ true → IsNoError (value_answer function arguments)
no_error value_functions.Min (a ∷ []) e = with_no_error (numbers_of_values a) (λ ns. answers (foremost_of Lt a)) (λ ns. tt)
no_error value_functions.Max (a ∷ []) e = with_no_error (numbers_of_values a) (λ ns. answers (foremost_of Gt a)) (λ ns. tt)
no_error value_functions.SubstringFrom (a ∷ b ∷ []) e =
    with_no_error (string_or_empty a) (λ t. answer_with (one_number_of b) (λ start. answers (string_atom (from_position start t) ∷ [])))
    (λ t. with_no_error (one_number_of b) (λ start. answers (string_atom (from_position start t) ∷ [])) (λ start. tt))
no_error value_functions.Substring (a ∷ b ∷ c ∷ []) e =
    with_no_error (string_or_empty a)
    (λ t. answer_with (one_number_of b) (λ start. answer_with (one_number_of c) (λ length. answers (string_atom (so_many_from start length t) ∷ []))))
    (λ t. with_no_error (one_number_of b) (λ start. answer_with (one_number_of c) (λ length. answers (string_atom (so_many_from start length t) ∷ [])))
    (λ start. with_no_error (one_number_of c) (λ length. answers (string_atom (so_many_from start length t) ∷ [])) (λ length. tt)))
no_error value_functions.Compare (a ∷ b ∷ []) e = compared_no_error (printed_values a) (printed_values b)
no_error value_functions.Normalize (a ∷ []) e = with_no_error (string_or_empty a) (λ t. Some (normalized_as (Some (Some Nfc)) t)) (λ t. tt)
no_error value_functions.StringToCodepoints (a ∷ []) e = with_no_error (string_or_empty a) (λ t. answers (codepoints_of t)) (λ t. tt)
no_error value_functions.DistinctValues (a ∷ []) e = tt
no_error value_functions.IndexOf (a ∷ (searched ∷ []) ∷ []) e = tt
no_error value_functions.Sum arguments e = absurd (cc)
no_error value_functions.Average arguments e = absurd (cc)
no_error value_functions.Abs arguments e = absurd (cc)
no_error value_functions.Floor arguments e = absurd (cc)
no_error value_functions.Ceiling arguments e = absurd (cc)
no_error value_functions.Round arguments e = absurd (cc)
no_error value_functions.NormalizeTo arguments e = absurd (cc)
no_error value_functions.CodepointsToString arguments e = absurd (cc)
no_error _ _ e = tt

quiet_answered : (answer : ValueAnswer) (forest : Forest) → IsNoError answer → IsQuiet forest (given answer (λ found. answered found forest))
quiet_answered None forest h = tt
quiet_answered (Some (Ok items)) forest h = refl
quiet_answered (Some (Err code)) forest h = absurd h

-- ---- functions over items

quiet_item_answer : (function : ItemFunction) (arguments : List Items) (forest : Forest) → is_quiet_item_function function ≡ true
    → IsQuiet forest (item_answer function arguments forest)
quiet_item_answer item_functions.Name (xs ∷ []) forest e =
    quiet_given forest (name_of_items lexical_name forest xs) (λ t. gives (string_item t) forest) (λ t. refl)
quiet_item_answer item_functions.LocalName (xs ∷ []) forest e =
    quiet_given forest (name_of_items (λ name. name.local) forest xs) (λ t. gives (string_item t) forest) (λ t. refl)
quiet_item_answer item_functions.Root (xs ∷ []) forest e = quiet_given forest (roots_of_items forest xs) (λ roots. gives roots forest) (λ roots. refl)
quiet_item_answer item_functions.Reverse (xs ∷ []) forest e = refl
quiet_item_answer item_functions.SubsequenceFrom (xs ∷ ys ∷ []) forest e =
    quiet_given forest (number_of_items ys) (λ start. gives (from_position start xs) forest) (λ start. refl)
quiet_item_answer item_functions.Subsequence (xs ∷ ys ∷ zs ∷ []) forest e =
    quiet_given forest (number_of_items ys) (λ start. given (number_of_items zs) (λ count. gives (so_many_from start count xs) forest))
    (λ start. quiet_given forest (number_of_items zs) (λ count. gives (so_many_from start count xs) forest) (λ count. refl))
quiet_item_answer item_functions.Remove (xs ∷ ys ∷ []) forest e =
    quiet_given forest (integer_of_items ys) (λ position. gives (without_position position xs) forest) (λ position. refl)
quiet_item_answer item_functions.InsertBefore (xs ∷ ys ∷ zs ∷ []) forest e =
    quiet_given forest (integer_of_items ys) (λ position. gives (inserted_before position zs xs) forest) (λ position. refl)
quiet_item_answer item_functions.DeepEqual (xs ∷ ys ∷ []) forest e = refl
quiet_item_answer item_functions.ZeroOrOne arguments forest e = absurd (cc)
quiet_item_answer item_functions.OneOrMore arguments forest e = absurd (cc)
quiet_item_answer item_functions.ExactlyOne arguments forest e = absurd (cc)
quiet_item_answer item_functions.Error arguments forest e = absurd (cc)
quiet_item_answer _ _ forest e = tt

-- ---- other functions

quiet_answer : {V : Type 0} (x : Option V) (answer : V → Atomic) (forest : Forest)
    → IsQuiet forest (given (option_map (λ v. one_answer (answer v)) x) (λ found. answered found forest))
quiet_answer None answer forest = tt
quiet_answer (Some x) answer forest = refl

quiet_applied : (function : Function) (views : List (List ItemView)) (forest : Forest)
    → IsQuiet forest (given (applied function views) (λ answer. answered answer forest))
quiet_applied functions.True [] forest = refl
quiet_applied functions.False [] forest = refl
quiet_applied functions.Boolean (items ∷ []) forest = quiet_answer (effective_boolean items) (boolean_atom items) forest
quiet_applied functions.Not (items ∷ []) forest = quiet_answer (effective_boolean items) (λ truth. truth_atom (not truth)) forest
quiet_applied functions.Count (items ∷ []) forest = refl
quiet_applied functions.Empty (items ∷ []) forest = refl
quiet_applied functions.Exists (items ∷ []) forest = refl
quiet_applied functions.String (items ∷ []) forest = quiet_answer (string_of_items items) string_atom forest
quiet_applied _ _ forest = tt

-- ---- calls

over_texts : (s : SchemaSet) (function : TextFunction) (arguments : List Items) (forest : Forest)
    → IsQuiet forest (given (all_argument_texts s forest arguments) (λ texts. given (text_answer function texts) (λ answer. gives (atom answer ∷ []) forest)))
over_texts s function arguments forest =
    quiet_given forest (all_argument_texts s forest arguments) (λ texts. given (text_answer function texts) (λ answer. gives (atom answer ∷ []) forest))
    (λ texts. quiet_given forest (text_answer function texts) (λ answer. gives (atom answer ∷ []) forest) (λ answer. refl))

pub quiet_call : (s : SchemaSet) → IsSchemaSet s → (function : Function) (ts : List SequenceType) (arguments : List Items) (forest : Forest) → IsHonest s forest
    → (is_quiet_function function && are_converted_quietly s (parameters_of function) ts) ≡ true → AreOfTypes s ts forest arguments
    → IsQuiet forest (called s function arguments forest)
quiet_call s is (functions.OfTexts function) ts arguments forest honest e b = over_texts s function arguments forest
quiet_call s is (functions.OfValues function) ts arguments forest honest e b =
    let both = and_parts (is_quiet_value_function function) (are_converted_quietly s (value_parameters_of function) ts) e in
    quiet_after forest (all_argument_values s (value_parameters_of function) arguments forest) (λ found left. given (value_answer function found) (λ answer. answered answer left))
    (quiet_values s is (value_parameters_of function) ts arguments forest honest both.1 b)
    (λ found. quiet_answered (value_answer function found) forest (no_error function found both.0))
quiet_call s is (functions.OfItems function) ts arguments forest honest e b =
    let both = and_parts (is_quiet_item_function function) (are_converted_quietly s (item_parameters_of function) ts) e in
    quiet_after forest (arguments_by s (item_parameters_of function) arguments forest) (λ seen left. item_answer function seen left)
    (quiet_seen s is (item_parameters_of function) ts arguments forest honest both.1 b)
    (λ seen. quiet_item_answer function seen forest both.0)
quiet_call s is functions.True ts arguments forest honest e b = quiet_applied functions.True (map (views_of forest) arguments) forest
quiet_call s is functions.False ts arguments forest honest e b = quiet_applied functions.False (map (views_of forest) arguments) forest
quiet_call s is functions.Boolean ts arguments forest honest e b = quiet_applied functions.Boolean (map (views_of forest) arguments) forest
quiet_call s is functions.Not ts arguments forest honest e b = quiet_applied functions.Not (map (views_of forest) arguments) forest
quiet_call s is functions.Count ts arguments forest honest e b = quiet_applied functions.Count (map (views_of forest) arguments) forest
quiet_call s is functions.Empty ts arguments forest honest e b = quiet_applied functions.Empty (map (views_of forest) arguments) forest
quiet_call s is functions.Exists ts arguments forest honest e b = quiet_applied functions.Exists (map (views_of forest) arguments) forest
quiet_call s is functions.Data ts arguments forest honest e b = quiet_applied functions.Data (map (views_of forest) arguments) forest
quiet_call s is functions.String ts arguments forest honest e b = quiet_applied functions.String (map (views_of forest) arguments) forest
quiet_call s is functions.Position ts arguments forest honest e b = quiet_applied functions.Position (map (views_of forest) arguments) forest
quiet_call s is functions.Last ts arguments forest honest e b = quiet_applied functions.Last (map (views_of forest) arguments) forest
