-- The table of built-in functions: the name and the parameters of each, the type of its result, and what it answers (Functions and Operators, sections 2.3, 2.4, 7.4, 7.5, 9.1, 9.3, 15.1, 15.4, 16.1 and 16.2).
use Rattle.std.specs.Prelude.{ℕ, ℤ, pos, Bool, true, false, not, ◌&&◌, ◌==◌, ◌≤◌, nat_le, List, [], ◌∷◌, length, replicate, codes, bytes_eq, encode_utf8_all, Option, Some, None, option_map, Result, Ok, if◌then◌else◌}
use Rattle.gx_base.specs.declared.code.Code.{Code}
use Rattle.gx_base.specs.declared.code.Code.TheVariants.{XPTY0004, FORG0006}
use Rattle.gx_base.specs.declared.type_name.Builtin.{Builtin}
use Rattle.gx_base.specs.declared.type_name.Builtin.TheVariants as types
use Rattle.gx_base.specs.declared.type_name.TypeName.TheVariants as names
use Rattle.gx_num.specs.declared.Number.TheVariants.{Int}
use Rattle.gx_facets.specs.declared.Atomic.{Atomic}
use Rattle.gx_facets.specs.declared.AtomValue.TheVariants.{Str, Truth, Num}
use Rattle.gx_facets.specs.Value.{printed_value}
use Rattle.gx_atomic.specs.EffectiveBoolean.{is_boolean_value, effective_boolean_value}
use Rattle.gx_funcs.specs.declared.function.Function.{Function}
use Rattle.gx_funcs.specs.declared.function.Function.TheVariants as functions
use Rattle.gx_funcs.specs.declared.function.Parameter.{Parameter}
use Rattle.gx_funcs.specs.declared.function.Conversion.{Conversion}
use Rattle.gx_funcs.specs.declared.function.Conversion.TheVariants as conversions
use Rattle.gx_funcs.specs.declared.function.ParameterType.{ParameterType}
use Rattle.gx_funcs.specs.declared.function.ParameterType.TheVariants as parameters
use Rattle.gx_funcs.specs.declared.text_function.TextFunction.{TextFunction}
use Rattle.gx_funcs.specs.declared.text_function.TextFunction.TheVariants as texts
use Rattle.gx_funcs.specs.declared.value_function.ValueFunction.{ValueFunction}
use Rattle.gx_funcs.specs.declared.value_function.ValueFunction.TheVariants as values
use Rattle.gx_funcs.specs.declared.item_function.ItemFunction.{ItemFunction}
use Rattle.gx_funcs.specs.declared.item_function.ItemFunction.TheVariants as items

-- all functions but `concat`, which there is for each number of arguments from two on
abbrev pub all_functions : List Function
all_functions =
    functions.True ∷ functions.False ∷ functions.Boolean ∷ functions.Not ∷ functions.Count ∷ functions.Empty ∷ functions.Exists ∷ functions.Data ∷ functions.String
    ∷ functions.Position ∷ functions.Last
    ∷ functions.OfTexts texts.StringLength ∷ functions.OfTexts texts.StringJoin ∷ functions.OfTexts texts.NormalizeSpace ∷ functions.OfTexts texts.Translate
    ∷ functions.OfTexts texts.Contains ∷ functions.OfTexts texts.StartsWith ∷ functions.OfTexts texts.EndsWith
    ∷ functions.OfTexts texts.SubstringBefore ∷ functions.OfTexts texts.SubstringAfter
    ∷ functions.OfValues values.Sum ∷ functions.OfValues values.Average ∷ functions.OfValues values.Min ∷ functions.OfValues values.Max
    ∷ functions.OfValues values.Abs ∷ functions.OfValues values.Floor ∷ functions.OfValues values.Ceiling ∷ functions.OfValues values.Round
    ∷ functions.OfValues values.SubstringFrom ∷ functions.OfValues values.Substring ∷ functions.OfValues values.Compare
    ∷ functions.OfValues values.Normalize ∷ functions.OfValues values.NormalizeTo
    ∷ functions.OfValues values.CodepointsToString ∷ functions.OfValues values.StringToCodepoints
    ∷ functions.OfValues values.DistinctValues ∷ functions.OfValues values.IndexOf
    ∷ functions.OfItems items.Name ∷ functions.OfItems items.LocalName ∷ functions.OfItems items.Root ∷ functions.OfItems items.Reverse
    ∷ functions.OfItems items.SubsequenceFrom ∷ functions.OfItems items.Subsequence ∷ functions.OfItems items.Remove ∷ functions.OfItems items.InsertBefore
    ∷ functions.OfItems items.ZeroOrOne ∷ functions.OfItems items.OneOrMore ∷ functions.OfItems items.ExactlyOne
    ∷ functions.OfItems items.DeepEqual ∷ functions.OfItems items.Error ∷ []

-- ---- names

abbrev pub text_function_name : TextFunction → List ℕ
text_function_name texts.StringLength = codes "string-length"
text_function_name (texts.Concat count) = codes "concat"
text_function_name texts.StringJoin = codes "string-join"
text_function_name texts.NormalizeSpace = codes "normalize-space"
text_function_name texts.Translate = codes "translate"
text_function_name texts.Contains = codes "contains"
text_function_name texts.StartsWith = codes "starts-with"
text_function_name texts.EndsWith = codes "ends-with"
text_function_name texts.SubstringBefore = codes "substring-before"
text_function_name texts.SubstringAfter = codes "substring-after"

abbrev pub value_function_name : ValueFunction → List ℕ
value_function_name values.Sum = codes "sum"
value_function_name values.Average = codes "avg"
value_function_name values.Min = codes "min"
value_function_name values.Max = codes "max"
value_function_name values.Abs = codes "abs"
value_function_name values.Floor = codes "floor"
value_function_name values.Ceiling = codes "ceiling"
value_function_name values.Round = codes "round"
value_function_name values.SubstringFrom = codes "substring"
value_function_name values.Substring = codes "substring"
value_function_name values.Compare = codes "compare"
value_function_name values.Normalize = codes "normalize-unicode"
value_function_name values.NormalizeTo = codes "normalize-unicode"
value_function_name values.CodepointsToString = codes "codepoints-to-string"
value_function_name values.StringToCodepoints = codes "string-to-codepoints"
value_function_name values.DistinctValues = codes "distinct-values"
value_function_name values.IndexOf = codes "index-of"

abbrev pub item_function_name : ItemFunction → List ℕ
item_function_name items.Name = codes "name"
item_function_name items.LocalName = codes "local-name"
item_function_name items.Root = codes "root"
item_function_name items.Reverse = codes "reverse"
item_function_name items.SubsequenceFrom = codes "subsequence"
item_function_name items.Subsequence = codes "subsequence"
item_function_name items.Remove = codes "remove"
item_function_name items.InsertBefore = codes "insert-before"
item_function_name items.ZeroOrOne = codes "zero-or-one"
item_function_name items.OneOrMore = codes "one-or-more"
item_function_name items.ExactlyOne = codes "exactly-one"
item_function_name items.DeepEqual = codes "deep-equal"
item_function_name items.Error = codes "error"

-- the local name of a function
abbrev pub function_name : Function → List ℕ
function_name functions.True = codes "true"
function_name functions.False = codes "false"
function_name functions.Boolean = codes "boolean"
function_name functions.Not = codes "not"
function_name functions.Count = codes "count"
function_name functions.Empty = codes "empty"
function_name functions.Exists = codes "exists"
function_name functions.Data = codes "data"
function_name functions.String = codes "string"
function_name functions.Position = codes "position"
function_name functions.Last = codes "last"
function_name (functions.OfTexts function) = text_function_name function
function_name (functions.OfValues function) = value_function_name function
function_name (functions.OfItems function) = item_function_name function

-- ---- parameters

-- any items
abbrev pub any_items : Parameter
any_items = record { takes = parameters.Items; code = XPTY0004 }

-- at most one item
abbrev pub one_item_at_most : Parameter
one_item_at_most = record { takes = parameters.OptionalItem; code = XPTY0004 }

-- what has an effective boolean value
abbrev pub truth_valued : Parameter
truth_valued = record { takes = parameters.TruthValue; code = FORG0006 }

-- at most one string, one string, any strings, and at most one atomic value, each after atomization
abbrev pub string_at_most : Parameter
string_at_most = record { takes = parameters.OptionalText; code = XPTY0004 }

abbrev pub one_string : Parameter
one_string = record { takes = parameters.OneText; code = XPTY0004 }

abbrev pub any_strings : Parameter
any_strings = record { takes = parameters.Texts; code = XPTY0004 }

abbrev pub value_at_most : Parameter
value_at_most = record { takes = parameters.OptionalValue; code = XPTY0004 }

-- at most one number, one number and any numbers, of which untyped values are none; any integers, as which untyped values are cast; any atomic
-- values, and one of them; each after atomization
abbrev pub number_at_most : Parameter
number_at_most = record { takes = parameters.OptionalNumber; code = XPTY0004 }

abbrev pub one_number : Parameter
one_number = record { takes = parameters.OneNumber; code = XPTY0004 }

abbrev pub any_numbers : Parameter
any_numbers = record { takes = parameters.Numbers; code = XPTY0004 }

abbrev pub any_integers : Parameter
any_integers = record { takes = parameters.Integers; code = XPTY0004 }

abbrev pub any_values : Parameter
any_values = record { takes = parameters.Values; code = XPTY0004 }

abbrev pub one_value : Parameter
one_value = record { takes = parameters.OneValue; code = XPTY0004 }

-- at most one node, and one integer, as which an untyped value is cast
abbrev pub node_at_most : Parameter
node_at_most = record { takes = parameters.OptionalNode; code = XPTY0004 }

abbrev pub one_integer : Parameter
one_integer = record { takes = parameters.OneInteger; code = XPTY0004 }

-- how an argument is converted before its parameter takes it (XQuery 1.0, section 3.1.5)
abbrev pub conversion_of : ParameterType → Conversion
conversion_of parameters.Items = conversions.Nothing
conversion_of parameters.OptionalItem = conversions.Nothing
conversion_of parameters.TruthValue = conversions.Nothing
conversion_of parameters.OptionalNode = conversions.Nothing
conversion_of parameters.Integers = conversions.DataAndCast types.Integer
conversion_of parameters.OneInteger = conversions.DataAndCast types.Integer
conversion_of takes = conversions.Data

abbrev pub text_parameters_of : TextFunction → List Parameter
text_parameters_of texts.StringLength = string_at_most ∷ []
text_parameters_of (texts.Concat count) = replicate count value_at_most
text_parameters_of texts.StringJoin = any_strings ∷ one_string ∷ []
text_parameters_of texts.NormalizeSpace = string_at_most ∷ []
text_parameters_of texts.Translate = string_at_most ∷ one_string ∷ one_string ∷ []
text_parameters_of texts.Contains = string_at_most ∷ string_at_most ∷ []
text_parameters_of texts.StartsWith = string_at_most ∷ string_at_most ∷ []
text_parameters_of texts.EndsWith = string_at_most ∷ string_at_most ∷ []
text_parameters_of texts.SubstringBefore = string_at_most ∷ string_at_most ∷ []
text_parameters_of texts.SubstringAfter = string_at_most ∷ string_at_most ∷ []

abbrev pub value_parameters_of : ValueFunction → List Parameter
value_parameters_of values.Sum = any_numbers ∷ []
value_parameters_of values.Average = any_numbers ∷ []
value_parameters_of values.Min = any_numbers ∷ []
value_parameters_of values.Max = any_numbers ∷ []
value_parameters_of values.Abs = number_at_most ∷ []
value_parameters_of values.Floor = number_at_most ∷ []
value_parameters_of values.Ceiling = number_at_most ∷ []
value_parameters_of values.Round = number_at_most ∷ []
value_parameters_of values.SubstringFrom = string_at_most ∷ one_number ∷ []
value_parameters_of values.Substring = string_at_most ∷ one_number ∷ one_number ∷ []
value_parameters_of values.Compare = string_at_most ∷ string_at_most ∷ []
value_parameters_of values.Normalize = string_at_most ∷ []
value_parameters_of values.NormalizeTo = string_at_most ∷ one_string ∷ []
value_parameters_of values.CodepointsToString = any_integers ∷ []
value_parameters_of values.StringToCodepoints = string_at_most ∷ []
value_parameters_of values.DistinctValues = any_values ∷ []
value_parameters_of values.IndexOf = any_values ∷ one_value ∷ []

abbrev pub item_parameters_of : ItemFunction → List Parameter
item_parameters_of items.Name = node_at_most ∷ []
item_parameters_of items.LocalName = node_at_most ∷ []
item_parameters_of items.Root = node_at_most ∷ []
item_parameters_of items.Reverse = any_items ∷ []
item_parameters_of items.SubsequenceFrom = any_items ∷ one_number ∷ []
item_parameters_of items.Subsequence = any_items ∷ one_number ∷ one_number ∷ []
item_parameters_of items.Remove = any_items ∷ one_integer ∷ []
item_parameters_of items.InsertBefore = any_items ∷ one_integer ∷ any_items ∷ []
item_parameters_of items.ZeroOrOne = any_items ∷ []
item_parameters_of items.OneOrMore = any_items ∷ []
item_parameters_of items.ExactlyOne = any_items ∷ []
item_parameters_of items.DeepEqual = any_items ∷ any_items ∷ []
item_parameters_of items.Error = []

abbrev pub parameters_of : Function → List Parameter
parameters_of functions.True = []
parameters_of functions.False = []
parameters_of functions.Boolean = truth_valued ∷ []
parameters_of functions.Not = truth_valued ∷ []
parameters_of functions.Count = any_items ∷ []
parameters_of functions.Empty = any_items ∷ []
parameters_of functions.Exists = any_items ∷ []
parameters_of functions.Data = any_items ∷ []
parameters_of functions.String = one_item_at_most ∷ []
parameters_of functions.Position = []
parameters_of functions.Last = []
parameters_of (functions.OfTexts function) = text_parameters_of function
parameters_of (functions.OfValues function) = value_parameters_of function
parameters_of (functions.OfItems function) = item_parameters_of function

-- how many arguments a function has
abbrev pub arity_of : Function → ℕ
arity_of function = length (parameters_of function)

-- a function has this name and so many parameters
abbrev pub is_of_name : (local : List ℕ) → (arity : ℕ) → Function → Bool
is_of_name local arity function = bytes_eq (encode_utf8_all local) (function_name function) && (arity_of function == arity)

abbrev pub first_named : List Function → (local : List ℕ) → (arity : ℕ) → Option Function
first_named [] local arity = None
first_named (function ∷ functions) local arity = if is_of_name local arity function then Some function else first_named functions local arity

-- `concat` of so many arguments
abbrev pub concat_named : (local : List ℕ) → (arity : ℕ) → Option Function
concat_named local arity =
    if bytes_eq (encode_utf8_all local) (codes "concat") && nat_le 2 arity then Some (functions.OfTexts (texts.Concat arity)) else None

abbrev pub found_or : Option Function → Option Function → Option Function
found_or None other = other
found_or (Some function) other = Some function

-- the function of this local name that has so many parameters
unfoldable pub function_named : (local : List ℕ) → (arity : ℕ) → Option Function
function_named local arity = found_or (first_named all_functions local arity) (concat_named local arity)

-- a function of the table: `concat` has two arguments at least
abbrev pub IsInTable : Function → Type 0
IsInTable (functions.OfTexts (texts.Concat count)) = 2 ≤ count
IsInTable function = Unit {0}

-- ---- results

abbrev pub text_answer_type_of : TextFunction → Builtin
text_answer_type_of texts.StringLength = types.Integer
text_answer_type_of (texts.Concat count) = types.Str
text_answer_type_of texts.StringJoin = types.Str
text_answer_type_of texts.NormalizeSpace = types.Str
text_answer_type_of texts.Translate = types.Str
text_answer_type_of texts.Contains = types.Boolean
text_answer_type_of texts.StartsWith = types.Boolean
text_answer_type_of texts.EndsWith = types.Boolean
text_answer_type_of texts.SubstringBefore = types.Str
text_answer_type_of texts.SubstringAfter = types.Str

-- the type of the one atomic value that a function answers; what `data` and functions over atomic values answer is of a type that their
-- arguments give
abbrev pub answer_type_of : Function → Option Builtin
answer_type_of functions.True = Some types.Boolean
answer_type_of functions.False = Some types.Boolean
answer_type_of functions.Boolean = Some types.Boolean
answer_type_of functions.Not = Some types.Boolean
answer_type_of functions.Count = Some types.Integer
answer_type_of functions.Empty = Some types.Boolean
answer_type_of functions.Exists = Some types.Boolean
answer_type_of functions.Data = None
answer_type_of functions.String = Some types.Str
answer_type_of functions.Position = Some types.Integer
answer_type_of functions.Last = Some types.Integer
answer_type_of (functions.OfTexts function) = Some (text_answer_type_of function)
answer_type_of (functions.OfValues function) = None
answer_type_of (functions.OfItems function) = None

-- ---- values

-- the function over strings that a function is, if it is one
abbrev pub text_function_of : Function → Option TextFunction
text_function_of (functions.OfTexts function) = Some function
text_function_of function = None

-- an item as a function looks at it: an atomic value, or a node with its string value
pub data ItemView : Type 0 where
  atomic_view : (value : Atomic) → ItemView
  node_view : (string_value : List ℕ) → ItemView

-- a boolean, an integer and a string as atomic values
abbrev pub truth_atom : Bool → Atomic
truth_atom truth = record { value = Truth truth; kind = names.Builtin types.Boolean }

abbrev pub integer_atom : ℤ → Atomic
integer_atom i = record { value = Num (Int i); kind = names.Builtin types.Integer }

abbrev pub string_atom : List ℕ → Atomic
string_atom characters = record { value = Str characters; kind = names.Builtin types.Str }

-- the effective boolean value: true where the first item is a node; of more than one atomic value there is none
abbrev pub effective_boolean : List ItemView → Option Bool
effective_boolean [] = Some false
effective_boolean (node_view text ∷ rest) = Some true
effective_boolean (atomic_view a ∷ []) = Some (effective_boolean_value a.value)
effective_boolean (atomic_view a ∷ b ∷ rest) = None

-- the value of an effective boolean value: one boolean is itself, under its own type
abbrev pub boolean_atom : List ItemView → Bool → Atomic
boolean_atom (atomic_view a ∷ []) truth = if is_boolean_value a.value then a else truth_atom truth
boolean_atom views truth = truth_atom truth

abbrev pub has_no_item : List ItemView → Bool
has_no_item [] = true
has_no_item (item ∷ rest) = false

-- the string value of an item
abbrev pub string_of_item : ItemView → List ℕ
string_of_item (atomic_view a) = printed_value a.value
string_of_item (node_view text) = text

-- the string value of at most one item, which is empty where there is none
abbrev pub string_of_items : List ItemView → Option (List ℕ)
string_of_items [] = Some []
string_of_items (item ∷ []) = Some (string_of_item item)
string_of_items (item ∷ other ∷ rest) = None

-- one atomic value as the answer of a function
abbrev pub one_answer : Atomic → Result (List Atomic) Code
one_answer a = Ok (a ∷ [])

-- the function over atomic values that a function is, if it is one
abbrev pub value_function_of : Function → Option ValueFunction
value_function_of (functions.OfValues function) = Some function
value_function_of function = None

-- the function over items that a function is, if it is one
abbrev pub item_function_of : Function → Option ItemFunction
item_function_of (functions.OfItems function) = Some function
item_function_of function = None

-- what a function answers of its arguments, a value or the code of a dynamic error; nothing where their number is another one
-- or they are not of the types of its parameters, of `data`, which is an operator of its own, of `position` and `last`, which are variables,
-- of functions over strings, which look at texts, and of those over atomic values
abbrev pub applied : Function → List (List ItemView) → Option (Result (List Atomic) Code)
applied functions.True [] = Some (one_answer (truth_atom true))
applied functions.False [] = Some (one_answer (truth_atom false))
applied functions.Boolean (items ∷ []) = option_map (λ truth. one_answer (boolean_atom items truth)) (effective_boolean items)
applied functions.Not (items ∷ []) = option_map (λ truth. one_answer (truth_atom (not truth))) (effective_boolean items)
applied functions.Count (items ∷ []) = Some (one_answer (integer_atom (pos (length items))))
applied functions.Empty (items ∷ []) = Some (one_answer (truth_atom (has_no_item items)))
applied functions.Exists (items ∷ []) = Some (one_answer (truth_atom (not (has_no_item items))))
applied functions.String (items ∷ []) = option_map (λ text. one_answer (string_atom text)) (string_of_items items)
applied _ _ = None
