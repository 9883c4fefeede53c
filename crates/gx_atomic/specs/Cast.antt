-- Casts of atomic values (XQuery 1.0 and XPath 2.0 Functions and Operators, section 17): for each target what a value is
-- cast to, or the code of the error.
use Rattle.std.specs.Prelude.{◌≡◌, ℕ, Bool, true, false, not, ◌&&◌, if◌then◌else◌, List, ℤ, pos, int_le, Option, Some, None, Result, Ok, Err}
use Rattle.gx_base.specs.declared.code.Code.{Code}
use Rattle.gx_base.specs.declared.code.Code.TheVariants as codes
use Rattle.gx_base.specs.declared.type_name.Builtin.{Builtin}
use Rattle.gx_base.specs.declared.type_name.Builtin.TheVariants as types
use Rattle.gx_base.specs.declared.type_name.TypeName.{TypeName}
use Rattle.gx_base.specs.declared.type_name.TypeName.TheVariants as names
use Rattle.gx_num.specs.declared.Number.TheVariants.{Int, Dec}
use Rattle.gx_num.specs.Number.{units_of, fits_decimal, is_zero}
use Rattle.gx_num.specs.Arithmetic.{truncated}
use Rattle.gx_facets.specs.declared.AtomValue.{AtomValue}
use Rattle.gx_facets.specs.declared.AtomValue.TheVariants.{Untyped, Str, Truth, Num}
use Rattle.gx_facets.specs.declared.Atomic.{Atomic}
use Rattle.gx_facets.specs.declared.ValueRead.{ValueRead}
use Rattle.gx_facets.specs.declared.ValueRead.TheVariants as reads
use Rattle.gx_facets.specs.WhiteSpace.{replaced, collapsed}
use Rattle.gx_facets.specs.Value.{value_of, printed_value, least_of, greatest_of}
use Rattle.gx_facets.specs.declared.restriction.Facets.{Facets}
use Rattle.gx_types.specs.SchemaSet.{SchemaSet}
use Rattle.gx_types.specs.SimpleType.{AtomicMeaning, declared_atomic}
use Rattle.gx_types.specs.SimpleValue.{is_admitted}
use Rattle.gx_atomic.specs.declared.casting.CastError.{CastError}
use Rattle.gx_atomic.specs.declared.casting.CastError.TheVariants.{FORG0001, FOCA0001, FOCA0003, FOCA0006, Memory}

-- ---- from a text (17.1.1)

-- the error of a text that is not read at a type
abbrev pub fault_at : Builtin → ValueRead → CastError
fault_at kind reads.NotLexical = FORG0001
fault_at types.Decimal reads.TooLarge = FOCA0001
fault_at kind reads.TooLarge = FOCA0003
fault_at kind reads.TooPrecise = FOCA0006
fault_at kind reads.Memory = Memory

abbrev pub with_fault : Builtin → Result AtomValue ValueRead → Result AtomValue CastError
with_fault kind (Ok value) = Ok value
with_fault kind (Err fault) = Err (fault_at kind fault)

-- the value that the text has at the type
abbrev pub read_at : Builtin → List ℕ → Result AtomValue CastError
read_at kind text = with_fault kind (value_of kind text)

-- ---- to xs:boolean (17.1.6): a number is true where it is not zero

abbrev pub to_boolean : AtomValue → Result AtomValue CastError
to_boolean (Untyped text) = read_at types.Boolean text
to_boolean (Str text) = read_at types.Boolean text
to_boolean (Truth b) = Ok (Truth b)
to_boolean (Num n) = Ok (Truth (not (is_zero n)))

-- ---- to xs:decimal (17.1.3.3): an integer has a decimal where its magnitude is below 10^12

abbrev pub integer_to_decimal : ℤ → Result AtomValue CastError
integer_to_decimal i = if fits_decimal (units_of (Int i)) then Ok (Num (Dec (units_of (Int i)))) else Err FOCA0001

abbrev pub to_decimal : AtomValue → Result AtomValue CastError
to_decimal (Untyped text) = read_at types.Decimal text
to_decimal (Str text) = read_at types.Decimal text
to_decimal (Truth true) = Ok (Num (Dec (pos 1000000)))
to_decimal (Truth false) = Ok (Num (Dec (pos 0)))
to_decimal (Num (Int i)) = integer_to_decimal i
to_decimal (Num (Dec u)) = Ok (Num (Dec u))

-- ---- to xs:integer (17.1.3.4): a decimal is truncated toward zero

abbrev pub to_integer : AtomValue → Result AtomValue CastError
to_integer (Untyped text) = read_at types.Integer text
to_integer (Str text) = read_at types.Integer text
to_integer (Truth true) = Ok (Num (Int (pos 1)))
to_integer (Truth false) = Ok (Num (Int (pos 0)))
to_integer (Num n) = Ok (Num (Int (truncated n)))

-- ---- to a derived type (17.2): cast to the type that it is derived from, and then restricted

abbrev pub in_type_range : Builtin → ℤ → Bool
in_type_range kind i = int_le (least_of kind) i && int_le i (greatest_of kind)

-- an integer within the range of its type
abbrev pub within_type : Builtin → Result AtomValue CastError → Result AtomValue CastError
within_type kind (Ok (Num (Int i))) = if in_type_range kind i then Ok (Num (Int i)) else Err FORG0001
within_type kind (Ok value) = Err FORG0001
within_type kind (Err error) = Err error

-- ---- to each built-in type; a string or an untyped value is the printed form (17.1.2)

abbrev pub cast_value : Builtin → AtomValue → Result AtomValue CastError
cast_value types.AnyType value = Err FORG0001
cast_value types.Untyped value = Err FORG0001
cast_value types.AnySimple value = Err FORG0001
cast_value types.AnyAtomic value = Err FORG0001
cast_value types.UntypedAtomic value = Ok (Untyped (printed_value value))
cast_value types.Str value = Ok (Str (printed_value value))
cast_value types.NormalizedStr value = Ok (Str (replaced (printed_value value)))
cast_value types.Token value = Ok (Str (collapsed (printed_value value)))
cast_value types.Boolean value = to_boolean value
cast_value types.Decimal value = to_decimal value
cast_value kind value = within_type kind (to_integer value)

-- ---- to a declared type (17.2): the cast to the built-in type at which its bases end, and then restricted

-- a value that a facet does not admit is none of the type
abbrev pub where_admitted : List Facets → Result AtomValue CastError → Result AtomValue CastError
where_admitted facets (Ok value) = if is_admitted facets value then Ok value else Err FORG0001
where_admitted facets (Err error) = Err error

-- no type is declared over xs:untypedAtomic
abbrev pub cast_to_bottom : Builtin → AtomValue → Result AtomValue CastError
cast_to_bottom types.UntypedAtomic value = Err FORG0001
cast_to_bottom kind value = cast_value kind value

-- a type that is not atomic is no target
abbrev pub cast_to_atomic : Option AtomicMeaning → AtomValue → Result AtomValue CastError
cast_to_atomic None value = Err FORG0001
cast_to_atomic (Some meaning) value = where_admitted meaning.facets (cast_to_bottom meaning.bottom value)

-- ---- to each type

abbrev pub cast_to : SchemaSet → TypeName → AtomValue → Result AtomValue CastError
cast_to schemas (names.Builtin kind) value = cast_value kind value
cast_to schemas t value = cast_to_atomic (declared_atomic schemas t) value

abbrev pub as_type : TypeName → Result AtomValue CastError → Result Atomic CastError
as_type kind (Ok value) = Ok (record { value = value; kind = kind })
as_type kind (Err error) = Err error

abbrev pub cast_of : SchemaSet → Atomic → TypeName → Result Atomic CastError
cast_of schemas a to = as_type to (cast_to schemas to a.value)

-- ---- the call answers this, unless memory runs out

abbrev pub CastsValue : Result AtomValue CastError → Result AtomValue CastError → Type 0
CastsValue (Err Memory) expected = Unit {0}
CastsValue answer expected = expected ≡ answer

abbrev pub Casts : Result Atomic CastError → Result Atomic CastError → Type 0
Casts (Err Memory) expected = Unit {0}
Casts answer expected = expected ≡ answer

-- ---- the code of the dynamic error

abbrev pub code_of : CastError → Option Code
code_of FORG0001 = Some codes.FORG0001
code_of FOCA0001 = Some codes.FOCA0001
code_of FOCA0003 = Some codes.FOCA0003
code_of FOCA0006 = Some codes.FOCA0006
code_of Memory = None
