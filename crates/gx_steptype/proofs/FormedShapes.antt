-- Shapes whose types are derived from xs:anyType, and an attribute's from xs:anySimpleType.
use Rattle.std.proofs.Common.{◌≡◌, None, Some, sym, subst}
use Rattle.gx_base.specs.declared.type_name.Builtin.TheVariants.{AnyType, AnySimple, Untyped}
use Rattle.gx_base.specs.declared.type_name.TypeName.{TypeName}
use Rattle.gx_base.specs.declared.type_name.TypeName.TheVariants as names
use Rattle.gx_types.specs.declared.shape.Shape.{Shape}
use Rattle.gx_types.specs.declared.shape.Shape.TheVariants as shapes
use Rattle.gx_types.specs.SchemaSet.{SchemaSet}
use Rattle.gx_types.specs.Derivation.{DerivesFrom}
use Rattle.gx_types.proofs.PublicLaws.{all_types_are_derived_from_any_type}

abbrev pub IsFormed : SchemaSet → Shape → Type 0
IsFormed s (shapes.Elem name t) = DerivesFrom s t (names.Builtin AnyType)
IsFormed s (shapes.Attr name t) = DerivesFrom s t (names.Builtin AnySimple)
IsFormed s shapes.Text = Unit {0}
IsFormed s (shapes.Doc None) = Unit {0}
IsFormed s (shapes.Doc (Some child)) = DerivesFrom s child.1 (names.Builtin AnyType)
IsFormed s (shapes.Atom t) = Unit {0}

-- an equal type is derived as well
pub derives_along : (s : SchemaSet) (t u kind : TypeName) → t ≡ u → DerivesFrom s u kind → DerivesFrom s t kind
derives_along s t u kind e h = subst (λ (v : TypeName). DerivesFrom s v kind) (sym e) h

pub untyped_under_any : (s : SchemaSet) → DerivesFrom s (names.Builtin Untyped) (names.Builtin AnyType)
untyped_under_any s = all_types_are_derived_from_any_type.builtin s Untyped
