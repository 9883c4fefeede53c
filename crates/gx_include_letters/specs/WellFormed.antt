-- The shapes that there may be over the types of schemas.
use Rattle.std.specs.Prelude.{map, List, [], ◌∷◌, ◌++◌, None, Some}
use Rattle.std.specs.Bool.{IsTrue}
use Rattle.std.specs.List.{list_any}
use Rattle.gx_base.specs.declared.type_name.Builtin.TheVariants.{Untyped, UntypedAtomic, Str, NormalizedStr, Token, Boolean, Decimal, Integer, NonPositive, Negative, Long, Int, Short, Byte, NonNegative, UnsignedLong, UnsignedInt, UnsignedShort, UnsignedByte, Positive}
use Rattle.gx_base.specs.declared.type_name.TypeName.{TypeName}
use Rattle.gx_base.specs.declared.type_name.TypeName.TheVariants as names
use Rattle.gx_types.specs.declared.shape.Shape.{Shape}
use Rattle.gx_types.specs.declared.shape.Shape.TheVariants as shapes
use Rattle.gx_types.specs.SameItemType.{same_type_name}
use Rattle.gx_types.specs.SchemaSet.{SchemaSet, declared_types}

-- the built-in types that a shape may have beside xs:untyped, in their order
abbrev pub built_in_types : List TypeName
built_in_types =
    map names.Builtin (UntypedAtomic ∷ Str ∷ NormalizedStr ∷ Token ∷ Boolean ∷ Decimal ∷ Integer ∷ NonPositive ∷ Negative ∷ Long ∷ Int ∷ Short ∷ Byte ∷ NonNegative ∷ UnsignedLong ∷ UnsignedInt ∷ UnsignedShort ∷ UnsignedByte ∷ Positive ∷ [])

-- the types that a shape may have beside xs:untyped: the built-in ones, and then those that are declared
abbrev pub plain_types : SchemaSet → List TypeName
plain_types schemas = built_in_types ++ declared_types schemas

-- the types that an element may have
abbrev pub element_types : SchemaSet → List TypeName
element_types schemas = names.Builtin Untyped ∷ plain_types schemas

-- a type, or one that is equal to it, is in a list
abbrev pub IsAmongTypes : TypeName → List TypeName → Type 0
IsAmongTypes t types = IsTrue (list_any (same_type_name t) types)

-- a shape of an item that there may be: xs:untyped belongs to elements alone, and no item has the type xs:anyType, xs:anySimpleType
-- or xs:anyAtomicType
abbrev pub IsWellFormedShape : SchemaSet → Shape → Type 0
IsWellFormedShape schemas (shapes.Elem name t) = IsAmongTypes t (element_types schemas)
IsWellFormedShape schemas (shapes.Attr name t) = IsAmongTypes t (plain_types schemas)
IsWellFormedShape schemas shapes.Text = Unit {0}
IsWellFormedShape schemas (shapes.Doc None) = Unit {0}
IsWellFormedShape schemas (shapes.Doc (Some child)) = IsAmongTypes child.1 (element_types schemas)
IsWellFormedShape schemas (shapes.Atom t) = IsAmongTypes t (plain_types schemas)
