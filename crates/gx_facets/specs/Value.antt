-- The value of a text at a built-in type (XML Schema Part 2, section 3), the text of a value, and the order of values.
use Rattle.std.specs.Prelude.{ℕ, ◌^◌, ◌-◌, Bool, true, false, ◌&&◌, ◌||◌, if◌then◌else◌, ◌≡◌, List, codes, ℤ, pos, negsuc, int_le, Option, Some, None, Result, Ok, Err}
use Rattle.std.specs.Str.{chars, encode_utf8_all}
use Rattle.std.specs.declared.cmp.Ordering.{Ordering}
use Rattle.std.specs.Ordering.{int_cmp, bool_cmp}
use Rattle.gx_base.specs.Text.{same_text, text_cmp}
use Rattle.gx_base.specs.declared.type_name.Builtin.{Builtin}
use Rattle.gx_base.specs.declared.type_name.Builtin.TheVariants as types
use Rattle.gx_num.specs.declared.Number.TheVariants.{Int, Dec}
use Rattle.gx_num.specs.declared.NumRead.{NumRead}
use Rattle.gx_num.specs.declared.NumRead.TheVariants as numbers
use Rattle.gx_num.specs.Number.{units_of}
use Rattle.gx_num.specs.Lexical.{integer_of, decimal_of}
use Rattle.gx_num.specs.Printed.{printed}
use Rattle.gx_facets.specs.WhiteSpace.{replaced, collapsed}
use Rattle.gx_facets.specs.declared.AtomValue.{AtomValue}
use Rattle.gx_facets.specs.declared.AtomValue.TheVariants.{Untyped, Str, Truth, Num}
use Rattle.gx_facets.specs.declared.ValueRead.{ValueRead}
use Rattle.gx_facets.specs.declared.ValueRead.TheVariants.{NotLexical, TooLarge, TooPrecise, Memory}

-- the least and the greatest number of a type that is or derives from xs:integer
abbrev pub least_of : Builtin → ℤ
least_of types.Long = negsuc 9223372036854775807
least_of types.Int = negsuc 2147483647
least_of types.Short = negsuc 32767
least_of types.Byte = negsuc 127
least_of types.NonNegative = pos 0
least_of types.UnsignedLong = pos 0
least_of types.UnsignedInt = pos 0
least_of types.UnsignedShort = pos 0
least_of types.UnsignedByte = pos 0
least_of types.Positive = pos 1
least_of _ = negsuc (2 ^ 127 - 1)

abbrev pub greatest_of : Builtin → ℤ
greatest_of types.NonPositive = pos 0
greatest_of types.Negative = negsuc 0
greatest_of types.Long = pos 9223372036854775807
greatest_of types.Int = pos 2147483647
greatest_of types.Short = pos 32767
greatest_of types.Byte = pos 127
greatest_of types.UnsignedLong = pos 18446744073709551615
greatest_of types.UnsignedInt = pos 4294967295
greatest_of types.UnsignedShort = pos 65535
greatest_of types.UnsignedByte = pos 255
greatest_of _ = pos (2 ^ 127 - 1)

abbrev pub fault_of : NumRead → ValueRead
fault_of numbers.NotANumber = NotLexical
fault_of numbers.TooLarge = TooLarge
fault_of numbers.TooPrecise = TooPrecise

abbrev pub integer_within : ℤ → ℤ → Result ℤ NumRead → Result AtomValue ValueRead
integer_within least greatest (Ok i) = if int_le least i && int_le i greatest then Ok (Num (Int i)) else Err NotLexical
integer_within least greatest (Err e) = Err (fault_of e)

abbrev pub value_of_decimal : Result ℤ NumRead → Result AtomValue ValueRead
value_of_decimal (Ok u) = Ok (Num (Dec u))
value_of_decimal (Err e) = Err (fault_of e)

abbrev pub boolean_value : List ℕ → Result AtomValue ValueRead
boolean_value text =
    if same_text text (codes "true") || same_text text (codes "1") then Ok (Truth true)
    else (if same_text text (codes "false") || same_text text (codes "0") then Ok (Truth false) else Err NotLexical)

-- the text of a number or a boolean, in UTF-8
abbrev pub lexical_form : List ℕ → List ℕ
lexical_form text = encode_utf8_all (collapsed text)

abbrev pub value_of : Builtin → List ℕ → Result AtomValue ValueRead
value_of types.AnyType text = Err NotLexical
value_of types.Untyped text = Err NotLexical
value_of types.AnySimple text = Err NotLexical
value_of types.AnyAtomic text = Err NotLexical
value_of types.UntypedAtomic text = Ok (Untyped text)
value_of types.Str text = Ok (Str text)
value_of types.NormalizedStr text = Ok (Str (replaced text))
value_of types.Token text = Ok (Str (collapsed text))
value_of types.Boolean text = boolean_value (lexical_form text)
value_of types.Decimal text = value_of_decimal (decimal_of (lexical_form text))
value_of types.Integer text = integer_within (least_of types.Integer) (greatest_of types.Integer) (integer_of (lexical_form text))
value_of types.NonPositive text = integer_within (least_of types.NonPositive) (greatest_of types.NonPositive) (integer_of (lexical_form text))
value_of types.Negative text = integer_within (least_of types.Negative) (greatest_of types.Negative) (integer_of (lexical_form text))
value_of types.Long text = integer_within (least_of types.Long) (greatest_of types.Long) (integer_of (lexical_form text))
value_of types.Int text = integer_within (least_of types.Int) (greatest_of types.Int) (integer_of (lexical_form text))
value_of types.Short text = integer_within (least_of types.Short) (greatest_of types.Short) (integer_of (lexical_form text))
value_of types.Byte text = integer_within (least_of types.Byte) (greatest_of types.Byte) (integer_of (lexical_form text))
value_of types.NonNegative text = integer_within (least_of types.NonNegative) (greatest_of types.NonNegative) (integer_of (lexical_form text))
value_of types.UnsignedLong text = integer_within (least_of types.UnsignedLong) (greatest_of types.UnsignedLong) (integer_of (lexical_form text))
value_of types.UnsignedInt text = integer_within (least_of types.UnsignedInt) (greatest_of types.UnsignedInt) (integer_of (lexical_form text))
value_of types.UnsignedShort text = integer_within (least_of types.UnsignedShort) (greatest_of types.UnsignedShort) (integer_of (lexical_form text))
value_of types.UnsignedByte text = integer_within (least_of types.UnsignedByte) (greatest_of types.UnsignedByte) (integer_of (lexical_form text))
value_of types.Positive text = integer_within (least_of types.Positive) (greatest_of types.Positive) (integer_of (lexical_form text))

-- the call answers this, unless memory runs out
abbrev pub Reads : Result AtomValue ValueRead → Result AtomValue ValueRead → Type 0
Reads (Ok v) expected = expected ≡ Ok v
Reads (Err NotLexical) expected = expected ≡ Err NotLexical
Reads (Err TooLarge) expected = expected ≡ Err TooLarge
Reads (Err TooPrecise) expected = expected ≡ Err TooPrecise
Reads (Err Memory) expected = Unit {0}

-- the characters of a value
abbrev pub printed_value : AtomValue → List ℕ
printed_value (Untyped t) = t
printed_value (Str t) = t
printed_value (Truth true) = codes "true"
printed_value (Truth false) = codes "false"
printed_value (Num n) = chars (printed n)

-- strings with untyped values, booleans and numbers are three families; values of two families have no order
abbrev pub order_of : AtomValue → AtomValue → Option Ordering
order_of (Untyped s) (Untyped t) = Some (text_cmp s t)
order_of (Untyped s) (Str t) = Some (text_cmp s t)
order_of (Str s) (Untyped t) = Some (text_cmp s t)
order_of (Str s) (Str t) = Some (text_cmp s t)
order_of (Truth p) (Truth q) = Some (bool_cmp p q)
order_of (Num m) (Num n) = Some (int_cmp (units_of m) (units_of n))
order_of a b = None

abbrev pub is_text : AtomValue → Bool
is_text (Untyped t) = true
is_text (Str t) = true
is_text (Truth b) = false
is_text (Num n) = false

-- one family: both strings or untyped, both booleans, or both numbers
abbrev pub same_family : AtomValue → AtomValue → Bool
same_family (Untyped s) b = is_text b
same_family (Str s) b = is_text b
same_family (Truth p) (Truth q) = true
same_family (Truth p) (Untyped t) = false
same_family (Truth p) (Str t) = false
same_family (Truth p) (Num n) = false
same_family (Num m) (Num n) = true
same_family (Num m) (Untyped t) = false
same_family (Num m) (Str t) = false
same_family (Num m) (Truth q) = false
