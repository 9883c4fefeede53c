-- The laws of derivation, and of equality of names of types.
use Rattle.std.specs.Prelude.{◌≡◌, ◌⊎◌}
use Rattle.std.specs.Bool.{IsTrue}
use Rattle.std.specs.Cmp.{IsEquivalence}
use Rattle.gx_base.specs.declared.type_name.Builtin.{Builtin}
use Rattle.gx_base.specs.declared.type_name.Builtin.TheVariants.{AnyType}
use Rattle.gx_base.specs.declared.type_name.TypeName.{TypeName}
use Rattle.gx_base.specs.declared.type_name.TypeName.TheVariants as names
use Rattle.gx_types.specs.BuiltinOrder.{same_builtin}
use Rattle.gx_types.specs.SameItemType.{same_type_name, same_item_type}
use Rattle.gx_types.specs.SameType.{same_type}
use Rattle.gx_types.specs.SchemaSet.{SchemaSet}
use Rattle.gx_types.specs.Derivation.{bases_of, Bases, base_of, is_declared, DerivesFrom}
use Rattle.gx_types.specs.Grounded.{Grounded}

-- derivation is reflexive and transitive
pub record DerivationIsAPreorder : Type 0 where
  pub reflexive : (schemas : SchemaSet) (t : TypeName) → DerivesFrom schemas t t
  pub transitive : (schemas : SchemaSet) (t u v : TypeName) → DerivesFrom schemas t u → DerivesFrom schemas u v → DerivesFrom schemas t v

-- of two types that a type is derived from, one is derived from the other
abbrev pub DerivationIsLinear : Type 0
DerivationIsLinear =
    (schemas : SchemaSet) (t u v : TypeName) → DerivesFrom schemas t u → DerivesFrom schemas t v → DerivesFrom schemas u v ⊎ DerivesFrom schemas v u

-- derivation looks at no prefix: equal types are derived from equal types
abbrev pub DerivationLooksAtNoPrefix : Type 0
DerivationLooksAtNoPrefix =
    (schemas : SchemaSet) (t u v w : TypeName) → IsTrue (same_type_name t u) → IsTrue (same_type_name v w) → DerivesFrom schemas t v → DerivesFrom schemas u w

-- equal types have one base
abbrev pub EqualTypesHaveOneBase : Type 0
EqualTypesHaveOneBase = (bases : Bases) (t u : TypeName) → IsTrue (same_type_name t u) → base_of bases t ≡ base_of bases u

-- each built-in type is derived from xs:anyType, and so is each declared type
pub record AllTypesAreDerivedFromAnyType : Type 0 where
  pub builtin : (schemas : SchemaSet) (b : Builtin) → DerivesFrom schemas (names.Builtin b) (names.Builtin AnyType)
  pub declared : (schemas : SchemaSet) (t : TypeName) → Grounded (bases_of schemas) → IsTrue (is_declared (bases_of schemas) t) → DerivesFrom schemas t (names.Builtin AnyType)

-- equality of built-in types, of names of types, of item types and of types
pub record EqualityIsAnEquivalence : Type 0 where
  pub builtins_are_one : (a b : Builtin) → IsTrue (same_builtin a b) → a ≡ b
  pub type_names : IsEquivalence same_type_name
  pub item_types : IsEquivalence same_item_type
  pub types : IsEquivalence same_type
