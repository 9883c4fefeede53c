-- The static rules: the type that an operator has, from the types of its parts (XQuery 1.0 and XPath 2.0 Formal Semantics, section 4).
use Rattle.std.specs.Prelude.{ℕ, zero, suc, ◌+◌, ℤ, pos, min, max, nat_le, slice_get, ◌==◌, Bool, true, false, ◌&&◌, ◌||◌, not, List, [], ◌∷◌, length, Option, None, Some, if◌then◌else◌, ◌*◌}
use Rattle.gx_base.specs.declared.code.Code.{Code}
use Rattle.gx_base.specs.declared.code.Code.TheVariants.{XPTY0004, XPST0005, XPST0008, XPTY0018, XPTY0019, XPTY0020, XPDY0002, XQTY0024, FOTY0012}
use Rattle.gx_base.specs.declared.type_name.Builtin.{Builtin}
use Rattle.gx_base.specs.declared.type_name.Builtin.TheVariants.{Integer, Decimal, UntypedAtomic, Boolean}
use Rattle.gx_base.specs.declared.type_name.Builtin.TheVariants as builtins
use Rattle.gx_base.specs.declared.name.Name.{Name}
use Rattle.gx_base.specs.declared.type_name.TypeName.{TypeName}
use Rattle.gx_base.specs.declared.type_name.TypeName.TheVariants as names
use Rattle.gx_facets.specs.declared.Atomic.{Atomic}
use Rattle.gx_facets.specs.declared.AtomValue.{AtomValue}
use Rattle.gx_facets.specs.declared.AtomValue.TheVariants.{Untyped, Str, Truth, Num}
use Rattle.gx_types.specs.declared.item_type.ItemType.{ItemType}
use Rattle.gx_types.specs.declared.item_type.ItemType.TheVariants as items
use Rattle.gx_types.specs.SchemaSet.{SchemaSet}
use Rattle.gx_types.specs.Derivation.{is_derived}
use Rattle.gx_types.specs.SequenceType.{SequenceType, never, nothing, item, both, either, optional, star, plus}
use Rattle.gx_types.specs.SameItemType.{same_type_name}
use Rattle.gx_types.specs.SameType.{same_type}
use Rattle.gx_types.specs.Occurs.{Occurs}
use Rattle.gx_types.specs.Occurrence.{occurrence_of, occurs}
use Rattle.gx_types.specs.Choice.{choice_among}
use Rattle.gx_types.specs.TypeRules.{sequence_of, choice_of, times_of, limited, joined_types}
use Rattle.gx_types.specs.Prime.{prime_of}
use Rattle.gx_types.specs.declared.step.Axis.{Axis}
use Rattle.gx_types.specs.declared.step.Test.{Test}
use Rattle.gx_steptype.specs.StepType.{any_element, any_attribute, any_document, text_item, node_type, any_item, step_type}
use Rattle.gx_steptype.specs.DataType.{has_data, type_of_data}
use Rattle.gx_steptype.specs.Replaced.{replaced_items}
use Rattle.gx_funcs.specs.declared.function.Function.{Function}
use Rattle.gx_funcs.specs.declared.function.Function.TheVariants as functions
use Rattle.gx_funcs.specs.declared.function.Parameter.{Parameter}
use Rattle.gx_funcs.specs.declared.function.ParameterType.{ParameterType}
use Rattle.gx_funcs.specs.declared.function.ParameterType.TheVariants as parameters
use Rattle.gx_funcs.specs.declared.function.Conversion.{Conversion}
use Rattle.gx_funcs.specs.declared.function.Conversion.TheVariants.{Nothing, Data, DataAndCast}
use Rattle.gx_funcs.specs.declared.value_function.ValueFunction.{ValueFunction}
use Rattle.gx_funcs.specs.declared.value_function.ValueFunction.TheVariants as values
use Rattle.gx_funcs.specs.declared.item_function.ItemFunction.{ItemFunction}
use Rattle.gx_funcs.specs.declared.item_function.ItemFunction.TheVariants as over_items
use Rattle.gx_funcs.specs.Function.{parameters_of, value_function_of, item_function_of, conversion_of, arity_of, answer_type_of}
use Rattle.gx_core.specs.declared.expression.ArithmeticOp.{ArithmeticOp}
use Rattle.gx_core.specs.declared.expression.ArithmeticOp.TheVariants.{Div, IDiv}
use Rattle.gx_core.specs.declared.expression.BinaryClass.{BinaryClass}
use Rattle.gx_core.specs.declared.expression.Binder.{Binder}
use Rattle.gx_core.specs.declared.expression.BinaryClass.TheVariants.{Arithmetic, Value, General, Nodes, Range, Combination}
use Rattle.gx_core.specs.declared.expression.NodeCombination.{NodeCombination}
use Rattle.gx_core.specs.declared.expression.NodeCombination.TheVariants as combinations
use Rattle.gx_core.specs.declared.cases.TypeCase.{TypeCase}
use Rattle.gx_sorting.specs.declared.keys.KeyOrder.{KeyOrder}
use Rattle.gx_core.specs.declared.constructor.Constructor.{Constructor}
use Rattle.gx_core.specs.declared.constructor.Constructor.TheVariants as constructors
use Rattle.gx_core.specs.declared.signature.FunctionSignature.{FunctionSignature}
use Rattle.gx_core.specs.Converting.{expected_atomic, is_any_atomic_type}
use Rattle.gx_core.specs.declared.operator.ClauseKind.{ClauseKind}
use Rattle.gx_core.specs.declared.operator.ClauseKind.TheVariants as kinds
use Rattle.gx_core.specs.declared.operator.Operator.{Operator}
use Rattle.gx_core.specs.declared.operator.Operator.TheVariants as operators
use Rattle.gx_funcs.specs.Numbers.{type_of_number}
use Rattle.gx_core.specs.BinaryOperators.{class_of}
use Rattle.gx_include.specs.Decision.{is_included}
use Rattle.gx_static.specs.declared.comparison.Family.{Family}
use Rattle.gx_static.specs.declared.comparison.Family.TheVariants as families
use Rattle.gx_core.specs.Bindings.{look_up, Types}

-- a type, or none: then a code, which stands at a part, counted from 0, or at the operator itself
pub data Ruling : Type 0 where
  has_type : (type : SequenceType) → Ruling
  has_none : (code : Code) (part : Option ℕ) → Ruling

-- the type of an atomic value of a built-in type
abbrev pub atomic : Builtin → SequenceType
atomic builtin = item (items.Atom (names.Builtin builtin))

-- an item type whose items are atomic values of a built-in type, or of one derived from it
abbrev pub is_atomic_in : SchemaSet → Builtin → ItemType → Bool
is_atomic_in schemas builtin (items.Atom kind) = is_derived schemas kind (names.Builtin builtin)
is_atomic_in schemas builtin _ = false

-- each item type of a type passes a test
abbrev pub all_items : (ItemType → Bool) → SequenceType → Bool
all_items test never = true
all_items test nothing = true
all_items test (item kind) = test kind
all_items test (both first second) = all_items test first && all_items test second
all_items test (either first second) = all_items test first && all_items test second
all_items test (optional part) = all_items test part
all_items test (star part) = all_items test part
all_items test (plus part) = all_items test part

-- all items are atomic values of a built-in type
abbrev pub is_all_in : SchemaSet → Builtin → SequenceType → Bool
is_all_in schemas builtin t = all_items (is_atomic_in schemas builtin) t

-- its values have at most one item, and at least one
abbrev pub is_at_most_one : SequenceType → Bool
is_at_most_one t = nat_le (occurrence_of t).greatest 1

abbrev pub is_at_least_one : SequenceType → Bool
is_at_least_one t = nat_le 1 (occurrence_of t).least

-- a type of at most one item, which is of a built-in type
abbrev pub is_optional_in : SchemaSet → Builtin → SequenceType → Bool
is_optional_in schemas builtin t = is_at_most_one t && is_all_in schemas builtin t

-- as often as the shorter of two operands
abbrev pub both_occur : SequenceType → SequenceType → Occurs
both_occur left right = occurs (min (occurrence_of left).least (occurrence_of right).least) (min (occurrence_of left).greatest (occurrence_of right).greatest)

-- a type, where a test holds
abbrev pub type_if : Bool → SequenceType → Ruling
type_if test t = if test then has_type t else has_none XPTY0004 None

-- ---- arithmetic

-- an integer where all operands are
abbrev pub integer_if : Bool → Builtin
integer_if whole = if whole then Integer else Decimal

-- the type of a number made of two: `div` gives a decimal, and `idiv` an integer
abbrev pub number_type : SchemaSet → ArithmeticOp → SequenceType → SequenceType → Builtin
number_type schemas Div left right = Decimal
number_type schemas IDiv left right = Integer
number_type schemas operation left right = integer_if (is_all_in schemas Integer left && is_all_in schemas Integer right)

-- the type of arithmetic: none where the left operand has none, empty where an operand is, and optional where an operand may be empty
abbrev pub arithmetic_type : SchemaSet → ArithmeticOp → SequenceType → SequenceType → SequenceType
arithmetic_type schemas operation left right =
    if same_type never left then never else times_of (atomic (number_type schemas operation left right)) (both_occur left right)

abbrev pub arithmetic_rule : SchemaSet → ArithmeticOp → (left right : SequenceType) → Ruling
arithmetic_rule schemas operation left right =
    type_if (is_optional_in schemas Decimal left && is_optional_in schemas Decimal right) (arithmetic_type schemas operation left right)

abbrev pub negation_rule : SchemaSet → SequenceType → Ruling
negation_rule schemas operand =
    type_if (is_optional_in schemas Decimal operand) (times_of (atomic (integer_if (is_all_in schemas Integer operand))) (occurrence_of operand))

-- ---- comparisons

-- an item type whose items are of a family of values that compare with one another
abbrev pub is_of_family : SchemaSet → Family → ItemType → Bool
is_of_family schemas families.Number kind = is_atomic_in schemas Decimal kind
is_of_family schemas families.Text kind = is_atomic_in schemas builtins.Str kind || is_atomic_in schemas UntypedAtomic kind
is_of_family schemas families.Truth kind = is_atomic_in schemas Boolean kind

abbrev pub are_of_family : SchemaSet → SequenceType → SequenceType → Family → Bool
are_of_family schemas left right family = all_items (is_of_family schemas family) left && all_items (is_of_family schemas family) right

abbrev pub are_of_one_family : SchemaSet → SequenceType → SequenceType → Bool
are_of_one_family schemas left right =
    are_of_family schemas left right families.Number || are_of_family schemas left right families.Text || are_of_family schemas left right families.Truth

-- once, or at most once where an operand may be empty
abbrev pub compared_occur : SequenceType → SequenceType → Occurs
compared_occur left right = occurs (min (occurrence_of left).least (occurrence_of right).least) 1

-- the type of a value comparison, and of a comparison of nodes: none where the left operand has none
abbrev pub value_comparison_type : SequenceType → SequenceType → SequenceType
value_comparison_type left right = if same_type never left then never else times_of (atomic Boolean) (compared_occur left right)

abbrev pub value_comparison_rule : SchemaSet → (left right : SequenceType) → Ruling
value_comparison_rule schemas left right =
    type_if (is_at_most_one left && is_at_most_one right && are_of_one_family schemas left right) (value_comparison_type left right)

-- the items of two item types can be compared: they are of one family, or the one is untyped and the other a boolean
abbrev pub are_comparable_items : SchemaSet → ItemType → ItemType → Bool
are_comparable_items schemas a b =
    (is_of_family schemas families.Number a && is_of_family schemas families.Number b)
    || (is_of_family schemas families.Text a && is_of_family schemas families.Text b)
    || (is_of_family schemas families.Truth a && is_of_family schemas families.Truth b)
    || (is_atomic_in schemas UntypedAtomic a && is_of_family schemas families.Truth b)
    || (is_of_family schemas families.Truth a && is_atomic_in schemas UntypedAtomic b)

abbrev pub are_comparable_types : SchemaSet → SequenceType → SequenceType → Bool
are_comparable_types schemas left right = all_items (λ a. all_items (are_comparable_items schemas a) right) left

abbrev pub general_comparison_rule : SchemaSet → (left right : SequenceType) → Ruling
general_comparison_rule schemas left right =
    type_if (are_comparable_types schemas left right) (if same_type never left then never else atomic Boolean)

-- ---- ranges

abbrev pub range_rule : SchemaSet → (left right : SequenceType) → Ruling
range_rule schemas left right = type_if (is_optional_in schemas Integer left && is_optional_in schemas Integer right) (star (atomic Integer))

-- ---- comparisons of nodes, and combinations of sequences of nodes

-- at most one node, and nodes, as many as there are
abbrev pub optional_node : SequenceType
optional_node = optional node_type

abbrev pub nodes_type : SequenceType
nodes_type = star node_type

abbrev pub node_comparison_rule : SchemaSet → (left right : SequenceType) → Ruling
node_comparison_rule schemas left right =
    type_if (is_included schemas left optional_node && is_included schemas right optional_node) (value_comparison_type left right)

-- items of both operands, and items of the left one
abbrev pub set_type : NodeCombination → (left right : SequenceType) → SequenceType
set_type combinations.Union left right = times_of (prime_of (sequence_of left right)) (occurrence_of (sequence_of left right))
set_type combinations.Intersect left right = times_of (prime_of left) (occurs 0 (occurrence_of left).greatest)
set_type combinations.Except left right = times_of (prime_of left) (occurs 0 (occurrence_of left).greatest)

abbrev pub set_rule : SchemaSet → NodeCombination → (left right : SequenceType) → Ruling
set_rule schemas op left right = type_if (is_included schemas left nodes_type && is_included schemas right nodes_type) (set_type op left right)

-- an operator of two operands
abbrev pub binary_rule : SchemaSet → BinaryClass → (left right : SequenceType) → Ruling
binary_rule schemas (Arithmetic operation) left right = arithmetic_rule schemas operation left right
binary_rule schemas (Value op) left right = value_comparison_rule schemas left right
binary_rule schemas (General op) left right = general_comparison_rule schemas left right
binary_rule schemas (Nodes op) left right = node_comparison_rule schemas left right
binary_rule schemas Range left right = range_rule schemas left right
binary_rule schemas (Combination op) left right = set_rule schemas op left right

-- ---- conditionals

-- the condition is one boolean
abbrev pub conditional_rule : SchemaSet → (condition chosen otherwise : SequenceType) → Ruling
conditional_rule schemas condition chosen otherwise =
    type_if (is_at_least_one condition && is_optional_in schemas Boolean condition) (choice_of chosen otherwise)

-- ---- binders

-- a type that is written at a binder changes no type: that of the variable is included in it
abbrev pub is_as_written : SchemaSet → (written : Option SequenceType) → (given : SequenceType) → Bool
is_as_written schemas None given = true
is_as_written schemas (Some written) given = is_included schemas given written

abbrev pub let_rule : SchemaSet → Binder → (value body : SequenceType) → Ruling
let_rule schemas binder value body = type_if (is_as_written schemas binder.kind value) body

-- ---- literals and atomization

-- the type that an atomic value shows
abbrev pub shown_type : AtomValue → Builtin
shown_type (Untyped t) = UntypedAtomic
shown_type (Str t) = builtins.Str
shown_type (Truth b) = Boolean
shown_type (Num n) = type_of_number n

-- a literal has the type that its value shows
abbrev pub literal_rule : Atomic → Ruling
literal_rule value =
    if same_type_name value.kind (names.Builtin (shown_type value.value)) then has_type (item (items.Atom value.kind)) else has_none XPTY0004 None

abbrev pub is_atomic : ItemType → Bool
is_atomic (items.Atom kind) = true
is_atomic _ = false

unfoldable pub data_rule : SchemaSet → SequenceType → Ruling
data_rule schemas operand = if has_data schemas operand then has_type (type_of_data schemas operand) else has_none FOTY0012 None

-- ---- paths

-- the variable of `for` has an item of its operand
abbrev pub for_rule : SchemaSet → Binder → (source body : SequenceType) → Ruling
for_rule schemas binder source body = type_if (is_as_written schemas binder.kind (prime_of source)) (times_of body (occurrence_of source))

-- whether a test holds of some item, or of every one: it is a boolean, and the variable has an item of the operand
abbrev pub quantifier_rule : SchemaSet → Binder → (source test : SequenceType) → Ruling
quantifier_rule schemas binder source test =
    type_if (is_as_written schemas binder.kind (prime_of source) && is_at_least_one test && is_optional_in schemas Boolean test) (atomic Boolean)

-- a step from one node
abbrev pub step_rule : SchemaSet → Axis → Test → (context : SequenceType) → Ruling
step_rule schemas axis asks context =
    if is_included schemas context node_type then has_type (step_type schemas axis asks context) else has_none XPTY0020 None

-- an item type whose items are nodes of types that are derived from the types of all nodes
abbrev pub is_node_item : SchemaSet → ItemType → Bool
is_node_item schemas (items.Element name kind) = is_derived schemas kind (names.Builtin builtins.AnyType)
is_node_item schemas (items.Attribute name kind) = is_derived schemas kind (names.Builtin builtins.AnySimple)
is_node_item schemas items.Text = true
is_node_item schemas (items.Document element) = true
is_node_item schemas (items.Atom kind) = false

abbrev pub nodes_rule : SchemaSet → SequenceType → Ruling
nodes_rule schemas operand = if is_included schemas operand nodes_type then has_type operand else has_none XPTY0019 None

-- nodes come in any order, each once; atomic values stay as they are
abbrev pub order_rule : SchemaSet → SequenceType → Ruling
order_rule schemas operand =
    if is_included schemas operand nodes_type then has_type (times_of (prime_of operand) (occurrence_of operand)) else (if all_items is_atomic operand then has_type operand else has_none XPTY0018 None)

-- ---- filters and switches

-- at most one item of an operand; where it is there for certain, as soon as the operand has one
abbrev pub one_of_type : (certain : Bool) → SequenceType → SequenceType
one_of_type certain operand = times_of (prime_of operand) (occurs (if certain then (occurrence_of operand).least else 0) (min 1 (occurrence_of operand).greatest))

abbrev pub is_first : (number : ℤ) → Bool
is_first (pos (suc zero)) = true
is_first _ = false

-- the choice of all branches, of which there is one for each case and one for the default
abbrev pub switch_rule : List TypeCase → (branches : List SequenceType) → Ruling
switch_rule cases branches = type_if (length branches == length cases + 1) (limited (choice_among branches))

-- ---- casts

-- an operand of one atomic value, or of none where that is allowed
abbrev pub cast_rule : TypeName → (allows_empty : Bool) → SequenceType → Ruling
cast_rule kind allows_empty operand =
    type_if ((allows_empty || is_at_least_one operand) && is_at_most_one operand && all_items is_atomic operand) (times_of (item (items.Atom kind)) (occurrence_of operand))

abbrev pub castable_rule : SequenceType → Ruling
castable_rule operand = type_if (is_at_most_one operand && all_items is_atomic operand) (atomic Boolean)

-- ---- conversions

-- an item type of untyped values, each of which is cast to a type
abbrev pub cast_item : TypeName → ItemType → SequenceType
cast_item kind (items.Atom own) = item (items.Atom (if same_type_name own (names.Builtin UntypedAtomic) then kind else own))
cast_item kind own = item own

-- the type of values each of which is cast where it is untyped, unless all atomic values are expected
abbrev pub untyped_cast : TypeName → SequenceType → SequenceType
untyped_cast kind t = if is_any_atomic_type kind then t else replaced_items (cast_item kind) t

abbrev pub cast_ruling : TypeName → Ruling → Ruling
cast_ruling kind (has_type t) = has_type (untyped_cast kind t)
cast_ruling kind (has_none code part) = has_none code part

-- ---- calls of built-in functions

-- the boolean types: values of such a type have an effective boolean value (XQuery 1.0, section 2.4.3)
unfoldable pub boolean_types : SequenceType
boolean_types =
    choice_among (nothing ∷ both node_type (star any_item) ∷ atomic Boolean ∷ atomic builtins.Str ∷ atomic UntypedAtomic ∷ atomic Decimal ∷ [])

-- an item type of atomic values that have one
abbrev pub has_effective_boolean : SchemaSet → ItemType → Bool
has_effective_boolean schemas kind =
    is_of_family schemas families.Truth kind || is_of_family schemas families.Text kind || is_of_family schemas families.Number kind

-- the type of an argument as its parameter asks for it (XQuery 1.0, section 3.1.5)
abbrev pub type_by : SchemaSet → Conversion → SequenceType → Ruling
type_by schemas Nothing argument = has_type argument
type_by schemas Data argument = data_rule schemas argument
type_by schemas (DataAndCast kind) argument = cast_ruling (names.Builtin kind) (data_rule schemas argument)

abbrev pub seen_argument : SchemaSet → ParameterType → SequenceType → Ruling
seen_argument schemas takes argument = type_by schemas (conversion_of takes) argument

-- a parameter takes the values of a type; an untyped value is a string, and no number
abbrev pub takes_argument : SchemaSet → ParameterType → SequenceType → Bool
takes_argument schemas parameters.Items argument = true
takes_argument schemas parameters.OptionalItem argument = is_at_most_one argument
takes_argument schemas parameters.TruthValue argument = is_included schemas argument boolean_types
takes_argument schemas parameters.OptionalText argument = is_at_most_one argument && all_items (is_of_family schemas families.Text) argument
takes_argument schemas parameters.OneText argument =
    is_at_least_one argument && is_at_most_one argument && all_items (is_of_family schemas families.Text) argument
takes_argument schemas parameters.Texts argument = all_items (is_of_family schemas families.Text) argument
takes_argument schemas parameters.OptionalValue argument = is_at_most_one argument && all_items is_atomic argument
takes_argument schemas parameters.OptionalNumber argument = is_optional_in schemas Decimal argument
takes_argument schemas parameters.OneNumber argument = is_at_least_one argument && is_at_most_one argument && is_all_in schemas Decimal argument
takes_argument schemas parameters.Numbers argument = is_all_in schemas Decimal argument
takes_argument schemas parameters.Integers argument = is_all_in schemas Integer argument
takes_argument schemas parameters.Values argument = all_items is_atomic argument
takes_argument schemas parameters.OneValue argument = is_at_least_one argument && is_at_most_one argument && all_items is_atomic argument
takes_argument schemas parameters.OptionalNode argument = is_included schemas argument optional_node
takes_argument schemas parameters.OneInteger argument = is_at_least_one argument && is_at_most_one argument && is_all_in schemas Integer argument

-- what follows an argument that its parameter takes; the codes of the others stand at them
abbrev pub if_taken : (takes : SequenceType → Bool) → Code → (number : ℕ) → (next : Ruling) → (argument : Ruling) → Ruling
if_taken takes code number next (has_type t) = if takes t then next else has_none code (Some number)
if_taken takes code number next (has_none other part) = has_none other (Some number)

abbrev pub argument_ruling : SchemaSet → Parameter → (number : ℕ) → (next : Ruling) → (argument : SequenceType) → Ruling
argument_ruling schemas parameter number next argument =
    if_taken (takes_argument schemas parameter.takes) parameter.code number next (seen_argument schemas parameter.takes argument)

-- each argument, numbered from this number on, is of the type of its parameter
abbrev pub arguments_rule : SchemaSet → List Parameter → List SequenceType → (number : ℕ) → Ruling → Ruling
arguments_rule schemas [] [] number ruling = ruling
arguments_rule schemas (parameter ∷ others) (argument ∷ arguments) number ruling =
    argument_ruling schemas parameter number (arguments_rule schemas others arguments (number + 1) ruling) argument
arguments_rule schemas _ _ number ruling = has_none XPTY0004 None

-- the type of what a call gives; Core calls neither `data` nor a function that looks at the context
abbrev pub called_type : Function → Option Builtin
called_type functions.Position = None
called_type functions.Last = None
called_type function = answer_type_of function

-- the type of the one atomic value that a function answers
abbrev pub answer_rule : Option Builtin → Ruling
answer_rule None = has_none XPTY0004 None
answer_rule (Some builtin) = has_type (atomic builtin)

-- the type of an argument as its parameter asks for it, if it has one
abbrev pub type_ruled : Ruling → SequenceType
type_ruled (has_type t) = t
type_ruled (has_none code part) = never

abbrev pub type_seen : SchemaSet → Option Parameter → Option SequenceType → SequenceType
type_seen schemas (Some parameter) (Some argument) = type_ruled (seen_argument schemas parameter.takes argument)
type_seen schemas _ _ = never

-- that of the argument with a number, counted from 0
abbrev pub seen_at : SchemaSet → List Parameter → List SequenceType → (number : ℕ) → SequenceType
seen_at schemas parameters arguments number = type_seen schemas (slice_get parameters number) (slice_get arguments number)

abbrev pub first_seen : SchemaSet → List Parameter → List SequenceType → SequenceType
first_seen schemas parameters arguments = seen_at schemas parameters arguments 0

-- one value, or none where an argument may have none
abbrev pub as_optional : (argument : SequenceType) → SequenceType → SequenceType
as_optional argument t = times_of t (occurs (occurrence_of argument).least 1)

-- the type of one number, which is whole where the argument is
abbrev pub rounded_type : SchemaSet → SequenceType → SequenceType
rounded_type schemas argument = as_optional argument (atomic (integer_if (is_all_in schemas Integer argument)))

-- the type of what a function over atomic values answers, from that of its first argument
abbrev pub value_answer_type : SchemaSet → ValueFunction → (first : SequenceType) → SequenceType
value_answer_type schemas values.Sum first = atomic (integer_if (is_all_in schemas Integer first))
value_answer_type schemas values.Average first = as_optional first (atomic Decimal)
value_answer_type schemas values.Min first = one_of_type true first
value_answer_type schemas values.Max first = one_of_type true first
value_answer_type schemas values.Abs first = rounded_type schemas first
value_answer_type schemas values.Floor first = rounded_type schemas first
value_answer_type schemas values.Ceiling first = rounded_type schemas first
value_answer_type schemas values.Round first = rounded_type schemas first
value_answer_type schemas values.Compare first = optional (atomic Integer)
value_answer_type schemas values.StringToCodepoints first = star (atomic Integer)
value_answer_type schemas values.DistinctValues first = times_of (prime_of first) (occurrence_of first)
value_answer_type schemas values.IndexOf first = star (atomic Integer)
value_answer_type schemas function first = atomic builtins.Str

-- items of a type, as often as it occurs
abbrev pub as_often : SequenceType → SequenceType
as_often t = times_of (prime_of t) (occurrence_of t)

-- some of them, or none
abbrev pub some_of_type : SequenceType → SequenceType
some_of_type t = times_of (prime_of t) (occurs 0 (occurrence_of t).greatest)

-- items of a type, of which there is one at least
abbrev pub at_least_one_of : SequenceType → SequenceType
at_least_one_of t = times_of (prime_of t) (occurs 1 (max 1 (occurrence_of t).greatest))

-- the type of what a function over items answers, from those of its first and its third argument
abbrev pub item_answer_type : ItemFunction → (first third : SequenceType) → SequenceType
item_answer_type over_items.Name first third = atomic builtins.Str
item_answer_type over_items.LocalName first third = atomic builtins.Str
item_answer_type over_items.Root first third = as_optional first node_type
item_answer_type over_items.Reverse first third = as_often first
item_answer_type over_items.SubsequenceFrom first third = some_of_type first
item_answer_type over_items.Subsequence first third = some_of_type first
item_answer_type over_items.Remove first third = some_of_type first
item_answer_type over_items.InsertBefore first third = as_often (sequence_of first third)
item_answer_type over_items.ZeroOrOne first third = one_of_type true first
item_answer_type over_items.OneOrMore first third = at_least_one_of first
item_answer_type over_items.ExactlyOne first third = prime_of first
item_answer_type over_items.DeepEqual first third = atomic Boolean
item_answer_type over_items.Error first third = never

abbrev pub item_call_type : SchemaSet → ItemFunction → List Parameter → List SequenceType → SequenceType
item_call_type schemas function parameters arguments =
    item_answer_type function (first_seen schemas parameters arguments) (seen_at schemas parameters arguments 2)

-- the type of what a function answers, by its kind: over atomic values, over items, or with an answer of one type
abbrev pub answer_ruling : SchemaSet → Option ValueFunction → Option ItemFunction → Function → List SequenceType → Ruling
answer_ruling schemas (Some over_values) of_items function arguments =
    has_type (value_answer_type schemas over_values (first_seen schemas (parameters_of function) arguments))
answer_ruling schemas None (Some of_items) function arguments = has_type (item_call_type schemas of_items (parameters_of function) arguments)
answer_ruling schemas None None function arguments = answer_rule (called_type function)

abbrev pub call_answer_ruling : SchemaSet → Function → List SequenceType → Ruling
call_answer_ruling schemas function arguments =
    answer_ruling schemas (value_function_of function) (item_function_of function) function arguments

unfoldable pub call_rule : SchemaSet → Function → List SequenceType → Ruling
call_rule schemas function arguments =
    arguments_rule schemas (parameters_of function) arguments 0 (call_answer_ruling schemas function arguments)

-- ---- blocks

-- a clause whose part has this type: the variable has an item of it, or the value, and a condition is one boolean
abbrev pub allows_clause : SchemaSet → ClauseKind → SequenceType → Bool
allows_clause schemas (kinds.For binder position) source = is_as_written schemas binder.kind (prime_of source)
allows_clause schemas (kinds.Let binder) value = is_as_written schemas binder.kind value
allows_clause schemas kinds.Where condition = is_at_least_one condition && is_optional_in schemas Boolean condition

-- a key is at most one value, of one family
abbrev pub allows_key : SchemaSet → SequenceType → Bool
allows_key schemas key = is_at_most_one key && are_of_one_family schemas key key

-- as often as one thing for each of another
abbrev pub product : Occurs → Occurs → Occurs
product o p = occurs (o.least * p.least) (min 2 (o.greatest * p.greatest))

-- how often a clause has tuples, where those behind it have them so often
abbrev pub clause_occurs : ClauseKind → SequenceType → Occurs → Occurs
clause_occurs (kinds.For binder position) source behind = product (occurrence_of source) behind
clause_occurs (kinds.Let binder) value behind = behind
clause_occurs kinds.Where condition behind = occurs 0 behind.greatest

-- how often tuples occur
abbrev pub tuples_occur : List ClauseKind → List SequenceType → Occurs
tuples_occur [] types = occurs 1 1
tuples_occur (kind ∷ kinds) [] = occurs 1 1
tuples_occur (kind ∷ kinds) (t ∷ types) = clause_occurs kind t (tuples_occur kinds types)

-- the keys, which are to be allowed, and behind them what is returned for each tuple
abbrev pub returned_rule : (allows : SequenceType → Bool) → List KeyOrder → Occurs → List SequenceType → Ruling
returned_rule allows [] tuples (body ∷ []) = has_type (times_of body tuples)
returned_rule allows [] tuples _ = has_none XPTY0004 None
returned_rule allows (order ∷ orders) tuples [] = has_none XPTY0004 None
returned_rule allows (order ∷ orders) tuples (key ∷ types) = if allows key then returned_rule allows orders tuples types else has_none XPTY0004 None

-- the clauses, which are to be allowed and are numbered from this number on, and what follows them; the code of a clause stands at it
abbrev pub clauses_rule : (allows : ClauseKind → SequenceType → Bool) → List ClauseKind → (number : ℕ) → (List SequenceType → Ruling) → List SequenceType → Ruling
clauses_rule allows [] number next types = next types
clauses_rule allows (kind ∷ kinds) number next [] = has_none XPTY0004 None
clauses_rule allows (kind ∷ kinds) number next (t ∷ types) = if allows kind t then clauses_rule allows kinds (number + 1) next types else has_none XPTY0004 (Some number)

-- what is returned, as often as there are tuples
abbrev pub block_rule : SchemaSet → List ClauseKind → List KeyOrder → List SequenceType → Ruling
block_rule schemas kinds orders types = clauses_rule (allows_clause schemas) kinds 0 (returned_rule (allows_key schemas) orders (tuples_occur kinds types)) types

-- ---- constructors

-- any number of elements, texts, documents and atomic values
abbrev pub any_document_content_type : SequenceType
any_document_content_type = star (choice_among (any_element ∷ text_item ∷ any_document ∷ atomic builtins.AnyAtomic ∷ []))

-- any number of attributes, and then of these
abbrev pub element_content : SequenceType
element_content = both (star (item any_attribute)) any_document_content_type

-- one type behind another, however long the sequence is
abbrev pub joined_in_order : List SequenceType → SequenceType
joined_in_order [] = nothing
joined_in_order (t ∷ types) = joined_types t (joined_in_order types)

-- an element without types, of this name
abbrev pub constructed_element : Name → SequenceType
constructed_element name = item (items.Element (Some name) (names.Builtin builtins.Untyped))

abbrev pub element_rule : SchemaSet → Name → (parts : List SequenceType) → Ruling
element_rule schemas name parts =
    if is_included schemas (joined_in_order parts) element_content then has_type (constructed_element name) else has_none XQTY0024 None

-- an operand that is to be atomized; where that has no type, the code stands at the part with this number
abbrev pub if_atomized : Ruling → (number : ℕ) → (SequenceType → Ruling) → Ruling
if_atomized (has_type t) number next = next t
if_atomized (has_none code part) number next = has_none code (Some number)

-- each part is atomized; they are numbered from this number on
abbrev pub if_all_atomized : SchemaSet → (parts : List SequenceType) → (number : ℕ) → Ruling → Ruling
if_all_atomized schemas [] number ruling = ruling
if_all_atomized schemas (part ∷ parts) number ruling =
    if_atomized (data_rule schemas part) number (λ t. if_all_atomized schemas parts (number + 1) ruling)

abbrev pub attribute_rule : SchemaSet → Name → (parts : List SequenceType) → Ruling
attribute_rule schemas name parts = if_all_atomized schemas parts 0 (has_type (item (items.Attribute (Some name) (names.Builtin UntypedAtomic))))

-- a text, which may be missing where there may be no value
abbrev pub constructed_text : (values : SequenceType) → SequenceType
constructed_text values = if is_at_least_one values then text_item else optional text_item

abbrev pub text_rule : SchemaSet → (content : SequenceType) → Ruling
text_rule schemas content = if_atomized (data_rule schemas content) 0 (λ values. has_type (constructed_text values))

-- the one element without types that content of one element becomes
abbrev pub only_element_of : (content : SequenceType) → Option (Option Name × TypeName)
only_element_of (item (items.Element (Some name) kind)) = Some (Some name, names.Builtin builtins.Untyped)
only_element_of _ = None

abbrev pub document_rule : SchemaSet → (content : SequenceType) → Ruling
document_rule schemas content = type_if (is_included schemas content any_document_content_type) (item (items.Document (only_element_of content)))

abbrev pub constructor_rule : SchemaSet → Constructor → (parts : List SequenceType) → Ruling
constructor_rule schemas (constructors.Element name) parts = element_rule schemas name parts
constructor_rule schemas (constructors.Attribute name) parts = attribute_rule schemas name parts
constructor_rule schemas constructors.Text (content ∷ []) = text_rule schemas content
constructor_rule schemas constructors.Document (content ∷ []) = document_rule schemas content
constructor_rule schemas _ parts = has_none XPTY0004 None

-- ---- calls of declared functions

abbrev pub converted_ruling : SchemaSet → (atomic_type : Option TypeName) → SequenceType → Ruling
converted_ruling schemas None t = has_type t
converted_ruling schemas (Some kind) t = cast_ruling kind (data_rule schemas t)

-- the type of a value as an expected type asks for it: where that is of atomic values, the value is atomized, and what is untyped is cast
unfoldable pub converted_type : SchemaSet → (expected : SequenceType) → SequenceType → Ruling
converted_type schemas expected t = converted_ruling schemas (expected_atomic expected) t

-- the arguments, numbered from this number on, each as its parameter asks for it
abbrev pub converted_arguments_rule : SchemaSet → (parameters : List SequenceType) → List SequenceType → (number : ℕ) → Ruling → Ruling
converted_arguments_rule schemas [] [] number ruling = ruling
converted_arguments_rule schemas (expected ∷ others) (argument ∷ arguments) number ruling =
    if_taken (λ t. is_included schemas t expected) XPTY0004 number (converted_arguments_rule schemas others arguments (number + 1) ruling)
    (converted_type schemas expected argument)
converted_arguments_rule schemas _ _ number ruling = has_none XPTY0004 None

-- a call of a declared function has the type of the result
abbrev pub user_rule : SchemaSet → FunctionSignature → (arguments : List SequenceType) → Ruling
user_rule schemas signature arguments = converted_arguments_rule schemas signature.parameters arguments 0 (has_type signature.result)

-- the value of the body of a function, as the type of the result asks for it, is of that type
abbrev pub included_ruling : SchemaSet → (expected : SequenceType) → Ruling → Ruling
included_ruling schemas expected (has_type t) = type_if (is_included schemas t expected) t
included_ruling schemas expected (has_none code part) = has_none code part

abbrev pub result_rule : SchemaSet → (expected body : SequenceType) → Ruling
result_rule schemas expected body = included_ruling schemas expected (converted_type schemas expected body)

-- how many parts an operator has
abbrev pub arity : Operator → ℕ
arity (operators.Lit value) = 0
arity (operators.Var number) = 1
arity operators.Empty = 0
arity operators.Seq = 2
arity (operators.For binder position) = 2
arity (operators.SomeIn binder) = 2
arity (operators.EveryIn binder) = 2
arity (operators.Let binder) = 2
arity (operators.Block clauses keys) = length clauses + length keys + 1
arity operators.If = 3
arity (operators.Cast kind allows_empty) = 1
arity (operators.Castable kind allows_empty) = 1
arity (operators.Treat kind) = 1
arity (operators.Step axis asks number) = 1
arity operators.Nodes = 1
arity operators.Order = 1
arity (operators.Switch cases default) = 2 + length cases
arity (operators.Nth number reverse) = 1
arity (operators.Final reverse) = 1
arity operators.DataOf = 1
arity operators.NoContext = 0
arity (operators.Call function) = arity_of function
arity operators.Neg = 1
arity (operators.Binary operator) = 2
arity (operators.Construct constructor count) = count
arity (operators.User signature count) = count

-- each operator, from the types of its parts; the one part of a variable and of a step is what the variable is bound to
abbrev pub rule : SchemaSet → Operator → List SequenceType → Ruling
rule schemas (operators.Lit value) [] = literal_rule value
rule schemas (operators.Var number) (bound ∷ []) = has_type bound
rule schemas operators.Empty [] = has_type nothing
rule schemas operators.Seq (first ∷ second ∷ []) = has_type (sequence_of first second)
rule schemas (operators.For binder position) (source ∷ body ∷ []) = for_rule schemas binder source body
rule schemas (operators.SomeIn binder) (source ∷ test ∷ []) = quantifier_rule schemas binder source test
rule schemas (operators.EveryIn binder) (source ∷ test ∷ []) = quantifier_rule schemas binder source test
rule schemas (operators.Block clauses keys) parts = block_rule schemas clauses keys parts
rule schemas (operators.Step axis asks number) (context ∷ []) = step_rule schemas axis asks context
rule schemas operators.Nodes (operand ∷ []) = nodes_rule schemas operand
rule schemas operators.Order (operand ∷ []) = order_rule schemas operand
rule schemas operators.NoContext [] = has_none XPDY0002 None
rule schemas (operators.Let binder) (value ∷ body ∷ []) = let_rule schemas binder value body
rule schemas (operators.Switch cases default) (operand ∷ branches) = switch_rule cases branches
rule schemas (operators.Nth number reverse) (operand ∷ []) = has_type (one_of_type (is_first number) operand)
rule schemas (operators.Final reverse) (operand ∷ []) = has_type (one_of_type true operand)
rule schemas operators.DataOf (operand ∷ []) = data_rule schemas operand
rule schemas operators.If (condition ∷ chosen ∷ otherwise ∷ []) = conditional_rule schemas condition chosen otherwise
rule schemas (operators.Cast kind allows_empty) (operand ∷ []) = cast_rule kind allows_empty operand
rule schemas (operators.Castable kind allows_empty) (operand ∷ []) = castable_rule operand
rule schemas (operators.Treat kind) (operand ∷ []) = has_type kind
rule schemas (operators.Call function) arguments = call_rule schemas function arguments
rule schemas operators.Neg (operand ∷ []) = negation_rule schemas operand
rule schemas (operators.Binary operator) (left ∷ right ∷ []) = binary_rule schemas (class_of operator) left right
rule schemas (operators.Construct constructor count) parts = constructor_rule schemas constructor parts
rule schemas (operators.User signature count) arguments = user_rule schemas signature arguments
rule schemas _ _ = has_none XPTY0004 None

-- the rule of a variable, where its number has a type in scope
abbrev pub variable_ruling : SchemaSet → (number : ℕ) → Option SequenceType → Ruling
variable_ruling schemas number None = has_none XPST0008 None
variable_ruling schemas number (Some bound) = rule schemas (operators.Var number) (bound ∷ [])

-- a step in an expression that gives nothing, whatever the node is, is an error
abbrev pub reaching : (context : SequenceType) → Ruling → Ruling
reaching context (has_type given) = if same_type nothing given && not (same_type never context) then has_none XPST0005 None else has_type given
reaching context (has_none code part) = has_none code part

-- the rule of a step from the node of a variable
abbrev pub step_ruling : SchemaSet → Axis → Test → (number : ℕ) → Option SequenceType → Ruling
step_ruling schemas axis asks number None = has_none XPST0008 None
step_ruling schemas axis asks number (Some context) = reaching context (rule schemas (operators.Step axis asks number) (context ∷ []))

-- each operator as it stands in an expression: a variable and a step have no part there, and take the type of the variable from its scope
abbrev pub ruling : SchemaSet → Operator → List SequenceType → Types → Ruling
ruling schemas (operators.Var number) [] types = variable_ruling schemas number (look_up types number)
ruling schemas (operators.Var number) (part ∷ parts) types = has_none XPTY0004 None
ruling schemas (operators.Step axis asks number) [] types = step_ruling schemas axis asks number (look_up types number)
ruling schemas (operators.Step axis asks number) (part ∷ parts) types = has_none XPTY0004 None
ruling schemas operator parts types = rule schemas operator parts
