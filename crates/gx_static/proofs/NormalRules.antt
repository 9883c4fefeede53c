-- Each rule gives a normal type where the parts have such.
use Rattle.std.proofs.Common.{◌≡◌, ℕ, zero, suc, ◌+◌, Bool, true, false, ◌&&◌, List, [], ◌∷◌, None, Some, refl, if◌then◌else◌, length, min, max, ◌==◌, Option}
use Rattle.std.specs.Prelude.{slice_get}
use Rattle.gx_types.specs.Choice.{choice_among}
use Rattle.gx_base.specs.declared.type_name.Builtin.TheVariants.{AnyAtomic, Boolean, Decimal, Integer}
use Rattle.gx_base.specs.declared.type_name.Builtin.TheVariants as builtins
use Rattle.gx_base.specs.declared.type_name.TypeName.TheVariants as names
use Rattle.gx_base.specs.declared.code.Code.TheVariants.{XPTY0004, XPTY0018, XPTY0019, XPTY0020, XQTY0024, FOTY0012}
use Rattle.gx_base.specs.declared.code.Code.{Code}
use Rattle.gx_facets.specs.declared.Atomic.{Atomic}
use Rattle.gx_facets.specs.declared.AtomValue.{AtomValue}
use Rattle.gx_facets.specs.declared.AtomValue.TheVariants.{Untyped, Str, Truth, Num}
use Rattle.gx_num.specs.declared.Number.TheVariants.{Int, Dec}
use Rattle.gx_types.specs.declared.item_type.ItemType.{ItemType}
use Rattle.gx_types.specs.declared.item_type.ItemType.TheVariants as items
use Rattle.gx_types.specs.SameItemType.{same_type_name}
use Rattle.gx_types.specs.SameType.{same_type}
use Rattle.gx_types.specs.SchemaSet.{SchemaSet}
use Rattle.gx_types.specs.SchemaInvariant.{HoldsOfEach, IsSchemaSet}
use Rattle.gx_types.specs.Occurrence.{occurrence_of, occurs}
use Rattle.gx_types.specs.Prime.{items_of, prime_of}
use Rattle.gx_types.specs.SequenceType.{SequenceType, never, item, optional, star}
use Rattle.gx_types.specs.TypeRules.{sequence_of, choice_of, times_of, limited}
use Rattle.gx_types.specs.Derivation.{DerivesFrom}
use Rattle.gx_types.proofs.PublicLaws.{derivation_is_a_preorder}
use Rattle.gx_include.specs.Decision.{is_included}
use Rattle.gx_steptype.specs.DataType.{has_data, type_of_data}
use Rattle.gx_steptype.specs.StepType.{node_type, step_type}
use Rattle.gx_funcs.specs.declared.function.Function.{Function}
use Rattle.gx_funcs.specs.declared.function.Function.TheVariants as functions
use Rattle.gx_funcs.specs.declared.function.Parameter.{Parameter}
use Rattle.gx_funcs.specs.declared.value_function.ValueFunction.{ValueFunction}
use Rattle.gx_funcs.specs.declared.value_function.ValueFunction.TheVariants as values
use Rattle.gx_funcs.specs.declared.function.Conversion.TheVariants.{Data}
use Rattle.gx_funcs.specs.declared.item_function.ItemFunction.{ItemFunction}
use Rattle.gx_funcs.specs.declared.item_function.ItemFunction.TheVariants as over_items
use Rattle.gx_funcs.specs.Function.{parameters_of, text_answer_type_of, value_function_of, item_function_of}
use Rattle.gx_core.specs.declared.expression.ArithmeticOp.{ArithmeticOp}
use Rattle.gx_core.specs.declared.expression.ArithmeticOp.TheVariants.{Div, IDiv}
use Rattle.gx_core.specs.declared.expression.BinaryClass.{BinaryClass}
use Rattle.gx_core.specs.declared.expression.BinaryClass.TheVariants.{Arithmetic, Value, General, Nodes, Range, Combination}
use Rattle.gx_core.specs.declared.expression.NodeCombination.{NodeCombination}
use Rattle.gx_core.specs.declared.expression.NodeCombination.TheVariants as combinations
use Rattle.gx_sorting.specs.declared.keys.KeyOrder.{KeyOrder}
use Rattle.gx_core.specs.declared.operator.ClauseKind.{ClauseKind}
use Rattle.gx_types.specs.Occurs.{Occurs}
use Rattle.gx_core.specs.declared.constructor.Constructor.{Constructor}
use Rattle.gx_core.specs.declared.constructor.Constructor.TheVariants as constructors
use Rattle.gx_core.specs.declared.operator.Operator.TheVariants as operators
use Rattle.gx_core.specs.BinaryOperators.{class_of}
use Rattle.gx_static.specs.Rule.{converted_type, converted_arguments_rule, if_atomized, if_all_atomized, only_element_of, constructor_rule, called_type, Ruling, has_type, has_none, type_if, atomic, all_items, is_atomic, is_all_in, is_optional_in, is_at_most_one, is_at_least_one, both_occur, integer_if, number_type, arithmetic_type, compared_occur, are_of_one_family, value_comparison_type, are_comparable_types, shown_type, literal_rule, is_as_written, data_rule, optional_node, nodes_type, set_type, order_rule, takes_argument, arguments_rule, answer_rule, call_rule, binary_rule, is_first, allows_clause, allows_key, tuples_occur, returned_rule, clauses_rule, if_taken, seen_argument, constructed_text, constructed_element, answer_ruling, cast_item, cast_ruling, first_seen, type_ruled, as_optional, value_answer_type, seen_at, type_seen, call_answer_ruling, item_answer_type, as_often, some_of_type}
use Rattle.gx_funcs.specs.declared.function.ParameterType.{ParameterType}
use Rattle.gx_funcs.specs.declared.function.ParameterType.TheVariants as parameters
use Rattle.gx_funcs.specs.declared.text_function.TextFunction.{TextFunction}
use Rattle.gx_funcs.specs.declared.text_function.TextFunction.TheVariants as texts
use Rattle.gx_static.specs.NormalTypes.{IsNormalType, GivesNormalType, RulesGiveNormalTypes, IsOfKnownType}
use Rattle.gx_static.proofs.NormalTypes.{times_is_normal, prime_is_normal, sequence_is_normal, choice_of_two_is_normal, limited_is_normal, choice_of_normal}
use Rattle.gx_static.proofs.AtomicTypes.{untyped_is_atomic, boolean_is_atomic, integer_is_atomic, nameable_is_atomic}
use Rattle.gx_static.proofs.NormalData.{data_is_normal}
use Rattle.gx_static.proofs.NormalParts.{each_so, replaced_is_normal}
use Rattle.gx_static.proofs.DemandLaws.{normal_kinds}
use Rattle.gx_static.proofs.NormalSteps.{step_is_normal, untyped_is_simple}

type_if_normal : (s : SchemaSet) (test : Bool) (t : SequenceType) → IsNormalType s t → GivesNormalType s (type_if test t)
type_if_normal s true t n = n
type_if_normal s false t n = tt

either_given : (s : SchemaSet) (test : Bool) (t : SequenceType) (other : Ruling) → IsNormalType s t → GivesNormalType s other → GivesNormalType s (if test then has_type t else other)
either_given s true t other n m = n
either_given s false t other n m = m

never_or : (s : SchemaSet) (test : Bool) (t : SequenceType) → IsNormalType s t → IsNormalType s (if test then never else t)
never_or s true t n = tt
never_or s false t n = n

-- ---- literals

shown_is_atomic : (s : SchemaSet) (v : AtomValue) → DerivesFrom s (names.Builtin (shown_type v)) (names.Builtin AnyAtomic)
shown_is_atomic s (Untyped text) = untyped_is_atomic s
shown_is_atomic s (Str text) = nameable_is_atomic s builtins.Str refl
shown_is_atomic s (Truth truth) = boolean_is_atomic s
shown_is_atomic s (Num (Int i)) = integer_is_atomic s
shown_is_atomic s (Num (Dec d)) = nameable_is_atomic s Decimal refl

literal_is_normal : (s : SchemaSet) (value : Atomic) → GivesNormalType s (literal_rule value)
literal_is_normal s value =
    elim (same_type_name value.kind (names.Builtin (shown_type value.value))) as
    (λ (b : Bool). same_type_name value.kind (names.Builtin (shown_type value.value)) ≡ b → GivesNormalType s (if b then has_type (item (items.Atom value.kind)) else has_none XPTY0004 None)) [
      | true ↦ λ e. derivation_is_a_preorder.transitive s value.kind (names.Builtin (shown_type value.value)) (names.Builtin AnyAtomic) (0, e) (shown_is_atomic s value.value)
      | false ↦ λ _. tt
    ] refl

-- ---- arithmetic and comparisons

whole_is_atomic : (s : SchemaSet) (whole : Bool) → IsNormalType s (atomic (integer_if whole))
whole_is_atomic s true = integer_is_atomic s
whole_is_atomic s false = nameable_is_atomic s Decimal refl

number_is_atomic : (s : SchemaSet) (operation : ArithmeticOp) (left right : SequenceType) → IsNormalType s (atomic (number_type s operation left right))
number_is_atomic s Div left right = nameable_is_atomic s Decimal refl
number_is_atomic s IDiv left right = integer_is_atomic s
number_is_atomic s _ left right = whole_is_atomic s (is_all_in s Integer left && is_all_in s Integer right)

compared_is_normal : (s : SchemaSet) (left right : SequenceType) → IsNormalType s (value_comparison_type left right)
compared_is_normal s left right =
    never_or s (same_type never left) (times_of (atomic Boolean) (compared_occur left right)) (times_is_normal s (atomic Boolean) (compared_occur left right) (boolean_is_atomic s))

set_is_normal : (s : SchemaSet) (op : NodeCombination) (left right : SequenceType) → IsNormalType s left → IsNormalType s right → IsNormalType s (set_type op left right)
set_is_normal s combinations.Union left right m n =
    times_is_normal s (prime_of (sequence_of left right)) (occurrence_of (sequence_of left right)) (prime_is_normal s (sequence_of left right) (sequence_is_normal s left right m n))
set_is_normal s combinations.Intersect left right m n = times_is_normal s (prime_of left) (occurs 0 (occurrence_of left).greatest) (prime_is_normal s left m)
set_is_normal s combinations.Except left right m n = times_is_normal s (prime_of left) (occurs 0 (occurrence_of left).greatest) (prime_is_normal s left m)

binary_is_normal : (s : SchemaSet) (class : BinaryClass) (left right : SequenceType) → IsNormalType s left → IsNormalType s right → GivesNormalType s (binary_rule s class left right)
binary_is_normal s (Arithmetic operation) left right m n =
    type_if_normal s (is_optional_in s Decimal left && is_optional_in s Decimal right) (arithmetic_type s operation left right)
    (never_or s (same_type never left) (times_of (atomic (number_type s operation left right)) (both_occur left right))
    (times_is_normal s (atomic (number_type s operation left right)) (both_occur left right) (number_is_atomic s operation left right)))
binary_is_normal s (Value op) left right m n =
    type_if_normal s (is_at_most_one left && is_at_most_one right && are_of_one_family s left right) (value_comparison_type left right) (compared_is_normal s left right)
binary_is_normal s (General op) left right m n =
    type_if_normal s (are_comparable_types s left right) (if same_type never left then never else atomic Boolean) (never_or s (same_type never left) (atomic Boolean) (boolean_is_atomic s))
binary_is_normal s (Nodes op) left right m n =
    type_if_normal s (is_included s left optional_node && is_included s right optional_node) (value_comparison_type left right) (compared_is_normal s left right)
binary_is_normal s Range left right m n = type_if_normal s (is_optional_in s Integer left && is_optional_in s Integer right) (star (atomic Integer)) (integer_is_atomic s)
binary_is_normal s (Combination op) left right m n = type_if_normal s (is_included s left nodes_type && is_included s right nodes_type) (set_type op left right) (set_is_normal s op left right m n)

-- ---- paths

order_is_normal : (s : SchemaSet) (operand : SequenceType) → IsNormalType s operand → GivesNormalType s (order_rule s operand)
order_is_normal s operand n =
    either_given s (is_included s operand nodes_type) (times_of (prime_of operand) (occurrence_of operand)) (if all_items is_atomic operand then has_type operand else has_none XPTY0018 None)
    (times_is_normal s (prime_of operand) (occurrence_of operand) (prime_is_normal s operand n)) (either_given s (all_items is_atomic operand) operand (has_none XPTY0018 None) n tt)

atomized_is_normal : (s : SchemaSet) (operand : SequenceType) → IsSchemaSet s → IsNormalType s operand → GivesNormalType s (data_rule s operand)
unfolding data_rule
atomized_is_normal s operand is n = either_given s (has_data s operand) (type_of_data s operand) (has_none FOTY0012 None) (data_is_normal s operand is n) tt

-- ---- constructors

atomized_gives : (s : SchemaSet) (r : Ruling) (number : ℕ) (next : SequenceType → Ruling) → ((t : SequenceType) → GivesNormalType s (next t)) → GivesNormalType s (if_atomized r number next)
atomized_gives s (has_type t) number next h = h t
atomized_gives s (has_none code part) number next h = tt

all_atomized_give : (s : SchemaSet) (parts : List SequenceType) (number : ℕ) (r : Ruling) → GivesNormalType s r → GivesNormalType s (if_all_atomized s parts number r)
all_atomized_give s [] number r n = n
all_atomized_give s (t ∷ parts) number r n = atomized_gives s (data_rule s t) number (λ u. if_all_atomized s parts (number + 1) r) (λ u. all_atomized_give s parts (number + 1) r n)

text_is_normal : (s : SchemaSet) (values : SequenceType) → IsNormalType s (constructed_text values)
text_is_normal s values = by_test (is_at_least_one values)
  where
    by_test : (b : Bool) → IsNormalType s (if b then item items.Text else optional (item items.Text))
    by_test true = tt
    by_test false = tt

document_is_normal : (s : SchemaSet) (content : SequenceType) → IsNormalType s (item (items.Document (only_element_of content)))
document_is_normal s (item (items.Element (Some q) kind)) = refl
document_is_normal s _ = tt

constructor_is_normal : (s : SchemaSet) (constructor : Constructor) (parts : List SequenceType) → GivesNormalType s (constructor_rule s constructor parts)
constructor_is_normal s (constructors.Element name) parts = either_given s _ (constructed_element name) (has_none XQTY0024 None) refl tt
constructor_is_normal s (constructors.Attribute name) parts =
    all_atomized_give s parts 0 (has_type (item (items.Attribute (Some name) (names.Builtin builtins.UntypedAtomic)))) (untyped_is_simple s)
constructor_is_normal s constructors.Text (content ∷ []) =
    atomized_gives s (data_rule s content) 0 (λ values. has_type (constructed_text values)) (λ values. text_is_normal s values)
constructor_is_normal s constructors.Document (content ∷ []) = type_if_normal s _ (item (items.Document (only_element_of content))) (document_is_normal s content)
constructor_is_normal s _ parts = tt

-- ---- calls

answer_of_texts : (s : SchemaSet) (function : TextFunction) → GivesNormalType s (answer_rule (Some (text_answer_type_of function)))
answer_of_texts s texts.StringLength = integer_is_atomic s
answer_of_texts s texts.Contains = boolean_is_atomic s
answer_of_texts s texts.StartsWith = boolean_is_atomic s
answer_of_texts s texts.EndsWith = boolean_is_atomic s
answer_of_texts s _ = nameable_is_atomic s builtins.Str refl

answer_is_normal : (s : SchemaSet) (function : Function) → GivesNormalType s (answer_rule (called_type function))
answer_is_normal s functions.Data = tt
answer_is_normal s functions.Position = tt
answer_is_normal s functions.Last = tt
answer_is_normal s functions.Count = integer_is_atomic s
answer_is_normal s functions.String = nameable_is_atomic s builtins.Str refl
answer_is_normal s (functions.OfTexts function) = answer_of_texts s function
answer_is_normal s (functions.OfValues function) = tt
answer_is_normal s (functions.OfItems function) = tt
answer_is_normal s _ = boolean_is_atomic s

chosen_is_normal : (s : SchemaSet) (takes : Bool) (given refused : Ruling) → GivesNormalType s given → GivesNormalType s refused → GivesNormalType s (if takes then given else refused)
chosen_is_normal s true given refused n m = n
chosen_is_normal s false given refused n m = m

-- untyped values that are cast to integers
cast_item_is_normal : (s : SchemaSet) (kind : ItemType) → IsOfKnownType s kind → IsNormalType s (cast_item (names.Builtin Integer) kind)
cast_item_is_normal s (items.Atom own) k = by_test (same_type_name own (names.Builtin builtins.UntypedAtomic))
  where
    by_test : (b : Bool) → IsNormalType s (item (items.Atom (if b then names.Builtin Integer else own)))
    by_test true = integer_is_atomic s
    by_test false = k
cast_item_is_normal s (items.Element name t) k = k
cast_item_is_normal s (items.Attribute name t) k = k
cast_item_is_normal s items.Text k = k
cast_item_is_normal s (items.Document element) k = k

cast_gives_normal : (s : SchemaSet) (r : Ruling) → GivesNormalType s r → GivesNormalType s (cast_ruling (names.Builtin Integer) r)
cast_gives_normal s (has_type t) n =
    replaced_is_normal s (cast_item (names.Builtin Integer)) t
    (each_so (IsOfKnownType s) (λ kind. IsNormalType s (cast_item (names.Builtin Integer) kind)) (items_of t) (λ kind k. cast_item_is_normal s kind k) (normal_kinds s t n))
cast_gives_normal s (has_none code part) n = tt

-- the type of an argument as its parameter sees it
pub seen_is_normal : (s : SchemaSet) (takes : ParameterType) (argument : SequenceType) → IsSchemaSet s → IsNormalType s argument → GivesNormalType s (seen_argument s takes argument)
seen_is_normal s parameters.Items argument is n = n
seen_is_normal s parameters.OptionalItem argument is n = n
seen_is_normal s parameters.TruthValue argument is n = n
seen_is_normal s parameters.OptionalNode argument is n = n
seen_is_normal s parameters.Integers argument is n = cast_gives_normal s (data_rule s argument) (atomized_is_normal s argument is n)
seen_is_normal s parameters.OneInteger argument is n = cast_gives_normal s (data_rule s argument) (atomized_is_normal s argument is n)
seen_is_normal s _ argument is n = atomized_is_normal s argument is n

taken_is_normal : (s : SchemaSet) (takes : SequenceType → Bool) (code : Code) (number : ℕ) (next seen : Ruling) → GivesNormalType s next → GivesNormalType s (if_taken takes code number next seen)
taken_is_normal s takes code number next (has_type t) n = chosen_is_normal s (takes t) next (has_none code (Some number)) n tt
taken_is_normal s takes code number next (has_none other part) n = tt

arguments_are_normal : (s : SchemaSet) (parameters : List Parameter) (arguments : List SequenceType) (number : ℕ) (ruling : Ruling) → GivesNormalType s ruling → GivesNormalType s (arguments_rule s parameters arguments number ruling)
arguments_are_normal s [] [] number ruling n = n
arguments_are_normal s (parameter ∷ others) (argument ∷ arguments) number ruling n =
    taken_is_normal s (takes_argument s parameter.takes) parameter.code number (arguments_rule s others arguments (number + 1) ruling) (seen_argument s parameter.takes argument)
    (arguments_are_normal s others arguments (number + 1) ruling n)
arguments_are_normal s _ _ number ruling n = tt

-- the type of an argument with a number
ruled_type_is_normal : (s : SchemaSet) (r : Ruling) → GivesNormalType s r → IsNormalType s (type_ruled r)
ruled_type_is_normal s (has_type t) h = h
ruled_type_is_normal s (has_none code part) h = tt

argument_is_normal : (s : SchemaSet) (parameters : List Parameter) (arguments : List SequenceType) (number : ℕ) → IsSchemaSet s → HoldsOfEach (IsNormalType s) arguments → IsNormalType s (seen_at s parameters arguments number)
argument_is_normal s (parameter ∷ parameters) (argument ∷ arguments) zero is n = ruled_type_is_normal s (seen_argument s parameter.takes argument) (seen_is_normal s parameter.takes argument is n.0)
argument_is_normal s (parameter ∷ parameters) (argument ∷ arguments) (suc number) is n = argument_is_normal s parameters arguments number is n.1
argument_is_normal s [] arguments number is n = tt
argument_is_normal s (parameter ∷ parameters) [] zero is n = tt
argument_is_normal s (parameter ∷ parameters) [] (suc number) is n = none_there (slice_get parameters number)
  where
    none_there : (p : Option Parameter) → IsNormalType s (type_seen s p None)
    none_there None = tt
    none_there (Some p) = tt

optional_is_normal : (s : SchemaSet) (argument t : SequenceType) → IsNormalType s t → IsNormalType s (as_optional argument t)
optional_is_normal s argument t n = times_is_normal s t (occurs (occurrence_of argument).least 1) n

value_is_normal : (s : SchemaSet) (function : ValueFunction) (first : SequenceType) → IsNormalType s first → IsNormalType s (value_answer_type s function first)
value_is_normal s values.Sum first n = whole_is_atomic s (is_all_in s Integer first)
value_is_normal s values.Average first n = optional_is_normal s first (atomic Decimal) (nameable_is_atomic s Decimal refl)
value_is_normal s values.Min first n = times_is_normal s (prime_of first) (occurs (occurrence_of first).least (min 1 (occurrence_of first).greatest)) (prime_is_normal s first n)
value_is_normal s values.Max first n = times_is_normal s (prime_of first) (occurs (occurrence_of first).least (min 1 (occurrence_of first).greatest)) (prime_is_normal s first n)
value_is_normal s values.Abs first n = optional_is_normal s first (atomic (integer_if (is_all_in s Integer first))) (whole_is_atomic s (is_all_in s Integer first))
value_is_normal s values.Floor first n = optional_is_normal s first (atomic (integer_if (is_all_in s Integer first))) (whole_is_atomic s (is_all_in s Integer first))
value_is_normal s values.Ceiling first n = optional_is_normal s first (atomic (integer_if (is_all_in s Integer first))) (whole_is_atomic s (is_all_in s Integer first))
value_is_normal s values.Round first n = optional_is_normal s first (atomic (integer_if (is_all_in s Integer first))) (whole_is_atomic s (is_all_in s Integer first))
value_is_normal s values.Compare first n = integer_is_atomic s
value_is_normal s values.StringToCodepoints first n = integer_is_atomic s
value_is_normal s values.DistinctValues first n = times_is_normal s (prime_of first) (occurrence_of first) (prime_is_normal s first n)
value_is_normal s values.IndexOf first n = integer_is_atomic s
value_is_normal s _ first n = nameable_is_atomic s builtins.Str refl

often_is_normal : (s : SchemaSet) (t : SequenceType) → IsNormalType s t → IsNormalType s (as_often t)
often_is_normal s t n = times_is_normal s (prime_of t) (occurrence_of t) (prime_is_normal s t n)

some_is_normal : (s : SchemaSet) (t : SequenceType) → IsNormalType s t → IsNormalType s (some_of_type t)
some_is_normal s t n = times_is_normal s (prime_of t) (occurs 0 (occurrence_of t).greatest) (prime_is_normal s t n)

node_is_normal : (s : SchemaSet) → IsNormalType s node_type
node_is_normal s = (((tt, refl), (0, refl)), tt)

items_are_normal : (s : SchemaSet) (function : ItemFunction) (first third : SequenceType) → IsNormalType s first → IsNormalType s third → IsNormalType s (item_answer_type function first third)
items_are_normal s over_items.Name first third n m = nameable_is_atomic s builtins.Str refl
items_are_normal s over_items.LocalName first third n m = nameable_is_atomic s builtins.Str refl
items_are_normal s over_items.Root first third n m = optional_is_normal s first node_type (node_is_normal s)
items_are_normal s over_items.Reverse first third n m = often_is_normal s first n
items_are_normal s over_items.SubsequenceFrom first third n m = some_is_normal s first n
items_are_normal s over_items.Subsequence first third n m = some_is_normal s first n
items_are_normal s over_items.Remove first third n m = some_is_normal s first n
items_are_normal s over_items.InsertBefore first third n m = often_is_normal s (sequence_of first third) (sequence_is_normal s first third n m)
items_are_normal s over_items.ZeroOrOne first third n m = times_is_normal s (prime_of first) (occurs (occurrence_of first).least (min 1 (occurrence_of first).greatest)) (prime_is_normal s first n)
items_are_normal s over_items.OneOrMore first third n m = times_is_normal s (prime_of first) (occurs 1 (max 1 (occurrence_of first).greatest)) (prime_is_normal s first n)
items_are_normal s over_items.ExactlyOne first third n m = prime_is_normal s first n
items_are_normal s over_items.DeepEqual first third n m = boolean_is_atomic s
items_are_normal s over_items.Error first third n m = tt

ruled_is_normal : (s : SchemaSet) (over_values : Option ValueFunction) (of_items : Option ItemFunction) (function : Function) (arguments : List SequenceType) → IsSchemaSet s → HoldsOfEach (IsNormalType s) arguments
    → GivesNormalType s (answer_ruling s over_values of_items function arguments)
ruled_is_normal s None None function arguments is n = answer_is_normal s function
ruled_is_normal s None (Some of_items) function arguments is n =
    items_are_normal s of_items (first_seen s (parameters_of function) arguments) (seen_at s (parameters_of function) arguments 2)
    (argument_is_normal s (parameters_of function) arguments 0 is n) (argument_is_normal s (parameters_of function) arguments 2 is n)
ruled_is_normal s (Some over_values) of_items function arguments is n =
    value_is_normal s over_values (first_seen s (parameters_of function) arguments) (argument_is_normal s (parameters_of function) arguments 0 is n)

call_is_normal : (s : SchemaSet) (function : Function) (arguments : List SequenceType) → IsSchemaSet s → HoldsOfEach (IsNormalType s) arguments → GivesNormalType s (call_rule s function arguments)
unfolding call_rule
call_is_normal s function arguments is n =
    arguments_are_normal s (parameters_of function) arguments 0 (call_answer_ruling s function arguments)
    (ruled_is_normal s (value_function_of function) (item_function_of function) function arguments is n)

-- ---- calls of declared functions

converted_are_normal : (s : SchemaSet) (parameters arguments : List SequenceType) (number : ℕ) (ruling : Ruling) → GivesNormalType s ruling
    → GivesNormalType s (converted_arguments_rule s parameters arguments number ruling)
converted_are_normal s [] [] number ruling n = n
converted_are_normal s (expected ∷ others) (argument ∷ arguments) number ruling n =
    taken_is_normal s (λ t. is_included s t expected) XPTY0004 number (converted_arguments_rule s others arguments (number + 1) ruling) (converted_type s expected argument)
    (converted_are_normal s others arguments (number + 1) ruling n)
converted_are_normal s _ _ number ruling n = tt

-- ---- blocks

returned_is_normal : (s : SchemaSet) (orders : List KeyOrder) (tuples : Occurs) (types : List SequenceType) → HoldsOfEach (IsNormalType s) types → GivesNormalType s (returned_rule (allows_key s) orders tuples types)
returned_is_normal s [] tuples [] n = tt
returned_is_normal s [] tuples (body ∷ []) n = times_is_normal s body tuples n.0
returned_is_normal s [] tuples (t ∷ u ∷ types) n = tt
returned_is_normal s (order ∷ orders) tuples [] n = tt
returned_is_normal s (order ∷ orders) tuples (key ∷ types) n =
    chosen_is_normal s (allows_key s key) (returned_rule (allows_key s) orders tuples types) (has_none XPTY0004 None) (returned_is_normal s orders tuples types n.1) tt

clauses_are_normal : (s : SchemaSet) (clauses : List ClauseKind) (orders : List KeyOrder) (tuples : Occurs) (number : ℕ) (types : List SequenceType) → HoldsOfEach (IsNormalType s) types
    → GivesNormalType s (clauses_rule (allows_clause s) clauses number (returned_rule (allows_key s) orders tuples) types)
clauses_are_normal s [] orders tuples number types n = returned_is_normal s orders tuples types n
clauses_are_normal s (kind ∷ clauses) orders tuples number [] n = tt
clauses_are_normal s (kind ∷ clauses) orders tuples number (t ∷ types) n =
    chosen_is_normal s (allows_clause s kind t) (clauses_rule (allows_clause s) clauses (number + 1) (returned_rule (allows_key s) orders tuples) types) (has_none XPTY0004 (Some number))
    (clauses_are_normal s clauses orders tuples (number + 1) types n.1) tt

-- ---- operators

pub rules_give_normal_types : RulesGiveNormalTypes
rules_give_normal_types s (operators.Lit value) [] is c n = literal_is_normal s value
rules_give_normal_types s (operators.Var number) (bound ∷ []) is c n = n.0
rules_give_normal_types s operators.Empty [] is c n = tt
rules_give_normal_types s operators.Seq (first ∷ second ∷ []) is c n = sequence_is_normal s first second n.0 n.1.0
rules_give_normal_types s (operators.SomeIn binder) (source ∷ test ∷ []) is c n =
    type_if_normal s (is_as_written s binder.kind (prime_of source) && is_at_least_one test && is_optional_in s Boolean test) (atomic Boolean) (boolean_is_atomic s)
rules_give_normal_types s (operators.EveryIn binder) (source ∷ test ∷ []) is c n =
    type_if_normal s (is_as_written s binder.kind (prime_of source) && is_at_least_one test && is_optional_in s Boolean test) (atomic Boolean) (boolean_is_atomic s)
rules_give_normal_types s (operators.For binder position) (source ∷ body ∷ []) is c n =
    type_if_normal s (is_as_written s binder.kind (prime_of source)) (times_of body (occurrence_of source)) (times_is_normal s body (occurrence_of source) n.1.0)
rules_give_normal_types s (operators.Block clauses keys) parts is c n = clauses_are_normal s clauses keys (tuples_occur clauses parts) 0 parts n
rules_give_normal_types s (operators.Step axis asks number) (context ∷ []) is c n =
    either_given s (is_included s context node_type) (step_type s axis asks context) (has_none XPTY0020 None) (step_is_normal s axis asks context is n.0) tt
rules_give_normal_types s operators.Nodes (operand ∷ []) is c n = either_given s (is_included s operand nodes_type) operand (has_none XPTY0019 None) n.0 tt
rules_give_normal_types s operators.Order (operand ∷ []) is c n = order_is_normal s operand n.0
rules_give_normal_types s operators.NoContext [] is c n = tt
rules_give_normal_types s (operators.Let binder) (value ∷ body ∷ []) is c n = type_if_normal s (is_as_written s binder.kind value) body n.1.0
rules_give_normal_types s (operators.Switch cases default) (operand ∷ branches) is c n =
    type_if_normal s (length branches == length cases + 1) (limited (choice_among branches)) (limited_is_normal s (choice_among branches) (choice_of_normal s branches n.1))
rules_give_normal_types s (operators.Nth number backwards) (operand ∷ []) is c n =
    times_is_normal s (prime_of operand) (occurs (if is_first number then (occurrence_of operand).least else 0) (min 1 (occurrence_of operand).greatest)) (prime_is_normal s operand n.0)
rules_give_normal_types s (operators.Final backwards) (operand ∷ []) is c n =
    times_is_normal s (prime_of operand) (occurs (occurrence_of operand).least (min 1 (occurrence_of operand).greatest)) (prime_is_normal s operand n.0)
rules_give_normal_types s operators.DataOf (operand ∷ []) is c n = atomized_is_normal s operand is n.0
rules_give_normal_types s operators.If (condition ∷ chosen ∷ otherwise ∷ []) is c n =
    type_if_normal s (is_at_least_one condition && is_optional_in s Boolean condition) (choice_of chosen otherwise) (choice_of_two_is_normal s chosen otherwise n.1.0 n.1.1.0)
rules_give_normal_types s (operators.Cast kind true) (operand ∷ []) is c n =
    type_if_normal s (is_at_most_one operand && all_items is_atomic operand) (times_of (item (items.Atom kind)) (occurrence_of operand)) (times_is_normal s (item (items.Atom kind)) (occurrence_of operand) c)
rules_give_normal_types s (operators.Cast kind false) (operand ∷ []) is c n =
    type_if_normal s (is_at_least_one operand && is_at_most_one operand && all_items is_atomic operand) (times_of (item (items.Atom kind)) (occurrence_of operand)) (times_is_normal s (item (items.Atom kind)) (occurrence_of operand) c)
rules_give_normal_types s (operators.Castable kind allows_empty) (operand ∷ []) is c n =
    type_if_normal s (is_at_most_one operand && all_items is_atomic operand) (atomic Boolean) (boolean_is_atomic s)
rules_give_normal_types s (operators.Treat kind) (operand ∷ []) is c n = c
rules_give_normal_types s (operators.Call function) arguments is c n = call_is_normal s function arguments is n
rules_give_normal_types s (operators.Construct constructor count) parts is c n = constructor_is_normal s constructor parts
rules_give_normal_types s (operators.User signature count) arguments is c n =
    converted_are_normal s signature.parameters arguments 0 (has_type signature.result) c
rules_give_normal_types s operators.Neg (operand ∷ []) is c n =
    type_if_normal s (is_optional_in s Decimal operand) (times_of (atomic (integer_if (is_all_in s Integer operand))) (occurrence_of operand))
    (times_is_normal s (atomic (integer_if (is_all_in s Integer operand))) (occurrence_of operand) (whole_is_atomic s (is_all_in s Integer operand)))
rules_give_normal_types s (operators.Binary operator) (left ∷ right ∷ []) is c n = binary_is_normal s (class_of operator) left right n.0 n.1.0
rules_give_normal_types s _ _ is c n = tt
