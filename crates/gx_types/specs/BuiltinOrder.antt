-- The order in which built-in types are listed (XML Schema 1.0 part 2, section 3).
use Rattle.std.specs.Prelude.{ℕ, Bool, ◌==◌}
use Rattle.gx_base.specs.declared.type_name.Builtin.{Builtin}
use Rattle.gx_base.specs.declared.type_name.Builtin.TheVariants.{AnyType, Untyped, AnySimple, AnyAtomic, UntypedAtomic, Str, NormalizedStr, Token, Boolean, Decimal, Integer, NonPositive, Negative, Long, Int, Short, Byte, NonNegative, UnsignedLong, UnsignedInt, UnsignedShort, UnsignedByte, Positive}

-- the number of a built-in type in the list, counted from 0
abbrev pub builtin_number : Builtin → ℕ
builtin_number AnyType = 0
builtin_number Untyped = 1
builtin_number AnySimple = 2
builtin_number AnyAtomic = 3
builtin_number UntypedAtomic = 4
builtin_number Str = 5
builtin_number NormalizedStr = 6
builtin_number Token = 7
builtin_number Boolean = 8
builtin_number Decimal = 9
builtin_number Integer = 10
builtin_number NonPositive = 11
builtin_number Negative = 12
builtin_number Long = 13
builtin_number Int = 14
builtin_number Short = 15
builtin_number Byte = 16
builtin_number NonNegative = 17
builtin_number UnsignedLong = 18
builtin_number UnsignedInt = 19
builtin_number UnsignedShort = 20
builtin_number UnsignedByte = 21
builtin_number Positive = 22

abbrev pub same_builtin : Builtin → Builtin → Bool
same_builtin a b = builtin_number a == builtin_number b
