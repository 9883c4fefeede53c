-- The bases of the built-in types (XML Schema 1.0 part 2, section 3; XQuery 1.0 and XPath 2.0 Data Model, section 2.7).
use Rattle.std.specs.Prelude.{Option, Some, None}
use Rattle.gx_base.specs.declared.type_name.Builtin.{Builtin}
use Rattle.gx_base.specs.declared.type_name.Builtin.TheVariants.{AnyType, Untyped, AnySimple, AnyAtomic, UntypedAtomic, Str, NormalizedStr, Token, Boolean, Decimal, Integer, NonPositive, Negative, Long, Int, Short, Byte, NonNegative, UnsignedLong, UnsignedInt, UnsignedShort, UnsignedByte, Positive}

-- the type that a built-in type is derived from, if it is derived from one
abbrev pub builtin_base_of : Builtin → Option Builtin
builtin_base_of AnyType = None
builtin_base_of Untyped = Some AnyType
builtin_base_of AnySimple = Some AnyType
builtin_base_of AnyAtomic = Some AnySimple
builtin_base_of UntypedAtomic = Some AnyAtomic
builtin_base_of Str = Some AnyAtomic
builtin_base_of NormalizedStr = Some Str
builtin_base_of Token = Some NormalizedStr
builtin_base_of Boolean = Some AnyAtomic
builtin_base_of Decimal = Some AnyAtomic
builtin_base_of Integer = Some Decimal
builtin_base_of NonPositive = Some Integer
builtin_base_of Negative = Some NonPositive
builtin_base_of Long = Some Integer
builtin_base_of Int = Some Long
builtin_base_of Short = Some Int
builtin_base_of Byte = Some Short
builtin_base_of NonNegative = Some Integer
builtin_base_of UnsignedLong = Some NonNegative
builtin_base_of UnsignedInt = Some UnsignedLong
builtin_base_of UnsignedShort = Some UnsignedInt
builtin_base_of UnsignedByte = Some UnsignedShort
builtin_base_of Positive = Some NonNegative
