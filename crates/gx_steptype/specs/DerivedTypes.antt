-- The choice over a type and all types that are derived from it.
use Rattle.std.specs.Prelude.{List, [], ◌∷◌, ◌++◌, map, filter}
use Rattle.gx_base.specs.declared.type_name.Builtin.{Builtin}
use Rattle.gx_base.specs.declared.type_name.Builtin.TheVariants.{Untyped, AnySimple, AnyAtomic, UntypedAtomic, Str, NormalizedStr, Token, Boolean, Decimal, Integer, NonPositive, Negative, Long, Int, Short, Byte, NonNegative, UnsignedLong, UnsignedInt, UnsignedShort, UnsignedByte, Positive}
use Rattle.gx_base.specs.declared.type_name.TypeName.{TypeName}
use Rattle.gx_base.specs.declared.type_name.TypeName.TheVariants as names
use Rattle.gx_types.specs.SchemaSet.{SchemaSet, declared_types}
use Rattle.gx_types.specs.Derivation.{is_derived}
use Rattle.gx_types.specs.SequenceType.{SequenceType}
use Rattle.gx_types.specs.Choice.{choice_among}

-- the built-in types but xs:anyType, in their order
abbrev pub listed_builtins : List Builtin
listed_builtins =
    Untyped ∷ AnySimple ∷ AnyAtomic ∷ UntypedAtomic ∷ Str ∷ NormalizedStr ∷ Token ∷ Boolean ∷ Decimal ∷ Integer ∷ NonPositive ∷ Negative ∷ Long ∷ Int ∷ Short ∷ Byte ∷ NonNegative ∷ UnsignedLong ∷ UnsignedInt ∷ UnsignedShort ∷ UnsignedByte ∷ Positive ∷ []

abbrev pub listed_names : List Builtin → List TypeName
listed_names builtins = map names.Builtin builtins

-- they, and then the declared types in document order
abbrev pub listed_types : SchemaSet → List TypeName
listed_types schemas = listed_names listed_builtins ++ declared_types schemas

-- those of a list that are derived from a type
abbrev pub derived_among : SchemaSet → TypeName → List TypeName → List TypeName
derived_among schemas kind types = filter (λ t. is_derived schemas t kind) types

abbrev pub over_derived : SchemaSet → (TypeName → SequenceType) → TypeName → SequenceType
over_derived schemas f kind = choice_among (map f (derived_among schemas kind (listed_types schemas)))
