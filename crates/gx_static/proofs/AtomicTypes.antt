-- Built-in types that are derived from xs:anyAtomicType.
use Rattle.std.proofs.Common.{◌≡◌, true, Option, Some, refl, sym, ap}
use Rattle.std.specs.Option.{option_map}
use Rattle.std.proofs.lemmas.Bool.{true≢false}
use Rattle.gx_base.specs.declared.type_name.Builtin.{Builtin}
use Rattle.gx_base.specs.declared.type_name.Builtin.TheVariants.{AnyType, Untyped, AnySimple, AnyAtomic, UntypedAtomic, Str, NormalizedStr, Token, Boolean, Decimal, Integer, NonPositive, Negative, Long, Int, Short, Byte, NonNegative, UnsignedLong, UnsignedInt, UnsignedShort, UnsignedByte, Positive}
use Rattle.gx_base.specs.declared.type_name.TypeName.{TypeName}
use Rattle.gx_base.specs.declared.type_name.TypeName.TheVariants as names
use Rattle.gx_types.specs.BuiltinBase.{builtin_base_of}
use Rattle.gx_types.specs.SchemaSet.{SchemaSet}
use Rattle.gx_types.specs.SchemaInvariant.{is_nameable}
use Rattle.gx_types.specs.Derivation.{bases_of, DerivesFrom}
use Rattle.gx_types.proofs.DerivationLemmas.{to_base}

-- a type is atomic
abbrev pub IsAtomic : SchemaSet → TypeName → Type 0
IsAtomic s t = DerivesFrom s t (names.Builtin AnyAtomic)

pub top : (s : SchemaSet) → IsAtomic s (names.Builtin AnyAtomic)
top s = (0, refl)

over : (s : SchemaSet) (b c : Builtin) → builtin_base_of b ≡ Some c → IsAtomic s (names.Builtin c) → IsAtomic s (names.Builtin b)
over s b c e d = to_base (bases_of s) (names.Builtin b) (names.Builtin AnyAtomic) (names.Builtin c) (ap (λ (o : Option Builtin). option_map names.Builtin o) e) d

pub integer_is_atomic : (s : SchemaSet) → IsAtomic s (names.Builtin Integer)
integer_is_atomic s = over s Integer Decimal refl (over s Decimal AnyAtomic refl (top s))

long_is_atomic : (s : SchemaSet) → IsAtomic s (names.Builtin Long)
long_is_atomic s = over s Long Integer refl (integer_is_atomic s)

short_is_atomic : (s : SchemaSet) → IsAtomic s (names.Builtin Short)
short_is_atomic s = over s Short Int refl (over s Int Long refl (long_is_atomic s))

count_is_atomic : (s : SchemaSet) → IsAtomic s (names.Builtin NonNegative)
count_is_atomic s = over s NonNegative Integer refl (integer_is_atomic s)

unsigned_is_atomic : (s : SchemaSet) → IsAtomic s (names.Builtin UnsignedInt)
unsigned_is_atomic s = over s UnsignedInt UnsignedLong refl (over s UnsignedLong NonNegative refl (count_is_atomic s))

pub untyped_is_atomic : (s : SchemaSet) → IsAtomic s (names.Builtin UntypedAtomic)
untyped_is_atomic s = over s UntypedAtomic AnyAtomic refl (top s)

pub boolean_is_atomic : (s : SchemaSet) → IsAtomic s (names.Builtin Boolean)
boolean_is_atomic s = over s Boolean AnyAtomic refl (top s)

string_is_atomic : (s : SchemaSet) → IsAtomic s (names.Builtin Str)
string_is_atomic s = over s Str AnyAtomic refl (top s)

-- built-in types that declarations may name
pub nameable_is_atomic : (s : SchemaSet) (b : Builtin) → is_nameable b ≡ true → IsAtomic s (names.Builtin b)
nameable_is_atomic s AnyType h = absurd (true≢false (sym h))
nameable_is_atomic s Untyped h = absurd (true≢false (sym h))
nameable_is_atomic s AnySimple h = absurd (true≢false (sym h))
nameable_is_atomic s AnyAtomic h = absurd (true≢false (sym h))
nameable_is_atomic s UntypedAtomic h = absurd (true≢false (sym h))
nameable_is_atomic s Str h = string_is_atomic s
nameable_is_atomic s NormalizedStr h = over s NormalizedStr Str refl (string_is_atomic s)
nameable_is_atomic s Token h = over s Token NormalizedStr refl (over s NormalizedStr Str refl (string_is_atomic s))
nameable_is_atomic s Boolean h = boolean_is_atomic s
nameable_is_atomic s Decimal h = over s Decimal AnyAtomic refl (top s)
nameable_is_atomic s Integer h = integer_is_atomic s
nameable_is_atomic s NonPositive h = over s NonPositive Integer refl (integer_is_atomic s)
nameable_is_atomic s Negative h = over s Negative NonPositive refl (over s NonPositive Integer refl (integer_is_atomic s))
nameable_is_atomic s Long h = long_is_atomic s
nameable_is_atomic s Int h = over s Int Long refl (long_is_atomic s)
nameable_is_atomic s Short h = short_is_atomic s
nameable_is_atomic s Byte h = over s Byte Short refl (short_is_atomic s)
nameable_is_atomic s NonNegative h = count_is_atomic s
nameable_is_atomic s UnsignedLong h = over s UnsignedLong NonNegative refl (count_is_atomic s)
nameable_is_atomic s UnsignedInt h = unsigned_is_atomic s
nameable_is_atomic s UnsignedShort h = over s UnsignedShort UnsignedInt refl (unsigned_is_atomic s)
nameable_is_atomic s UnsignedByte h = over s UnsignedByte UnsignedShort refl (over s UnsignedShort UnsignedInt refl (unsigned_is_atomic s))
nameable_is_atomic s Positive h = over s Positive NonNegative refl (count_is_atomic s)
