-- The local names of the built-in types (XML Schema 1.0 part 2, section 3).
use Rattle.std.specs.Prelude.{ℕ, List, [], ◌∷◌, codes}
use Rattle.gx_base.specs.declared.type_name.Builtin.{Builtin}
use Rattle.gx_base.specs.declared.type_name.Builtin.TheVariants.{AnyType, Untyped, AnySimple, AnyAtomic, UntypedAtomic, Str, NormalizedStr, Token, Boolean, Decimal, Integer, NonPositive, Negative, Long, Int, Short, Byte, NonNegative, UnsignedLong, UnsignedInt, UnsignedShort, UnsignedByte, Positive}

abbrev pub local_name : Builtin → List ℕ
local_name AnyType = codes "anyType"
local_name Untyped = codes "untyped"
local_name AnySimple = codes "anySimpleType"
local_name AnyAtomic = codes "anyAtomicType"
local_name UntypedAtomic = codes "untypedAtomic"
local_name Str = codes "string"
local_name NormalizedStr = codes "normalizedString"
local_name Token = codes "token"
local_name Boolean = codes "boolean"
local_name Decimal = codes "decimal"
local_name Integer = codes "integer"
local_name NonPositive = codes "nonPositiveInteger"
local_name Negative = codes "negativeInteger"
local_name Long = codes "long"
local_name Int = codes "int"
local_name Short = codes "short"
local_name Byte = codes "byte"
local_name NonNegative = codes "nonNegativeInteger"
local_name UnsignedLong = codes "unsignedLong"
local_name UnsignedInt = codes "unsignedInt"
local_name UnsignedShort = codes "unsignedShort"
local_name UnsignedByte = codes "unsignedByte"
local_name Positive = codes "positiveInteger"

-- all built-in types
abbrev pub all_builtins : List Builtin
all_builtins =
    AnyType ∷ Untyped ∷ AnySimple ∷ AnyAtomic ∷ UntypedAtomic ∷ Str ∷ NormalizedStr ∷ Token ∷ Boolean ∷ Decimal ∷ Integer ∷ NonPositive ∷ Negative ∷ Long ∷ Int ∷ Short ∷ Byte ∷ NonNegative
    ∷ UnsignedLong ∷ UnsignedInt ∷ UnsignedShort ∷ UnsignedByte ∷ Positive ∷ []
