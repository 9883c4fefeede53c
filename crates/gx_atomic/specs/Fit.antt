-- When an atomic value fits its type (XQuery 1.0 and XPath 2.0 Data Model, section 2.7).
use Rattle.std.specs.Prelude.{◌≡◌}
use Rattle.gx_base.specs.declared.type_name.Builtin.{Builtin}
use Rattle.gx_base.specs.declared.type_name.Builtin.TheVariants as types
use Rattle.gx_base.specs.declared.type_name.TypeName.{TypeName}
use Rattle.gx_base.specs.declared.type_name.TypeName.TheVariants as names
use Rattle.gx_num.specs.declared.Number.TheVariants.{Int, Dec}
use Rattle.gx_facets.specs.declared.AtomValue.{AtomValue}
use Rattle.gx_facets.specs.declared.AtomValue.TheVariants.{Untyped, Str, Truth, Num}
use Rattle.gx_facets.specs.declared.Atomic.{Atomic}
use Rattle.gx_types.specs.SchemaSet.{SchemaSet}
use Rattle.gx_types.specs.Derivation.{DerivesFrom}

-- the type is derived from a built-in one
abbrev pub DerivesFromBuiltin : SchemaSet → TypeName → Builtin → Type 0
DerivesFromBuiltin schemas kind builtin = DerivesFrom schemas kind (names.Builtin builtin)

-- the value is of the kind that the type has
abbrev pub FitsKind : SchemaSet → AtomValue → TypeName → Type 0
FitsKind schemas (Untyped text) kind = kind ≡ names.Builtin types.UntypedAtomic
FitsKind schemas (Str text) kind = DerivesFromBuiltin schemas kind types.Str
FitsKind schemas (Truth b) kind = DerivesFromBuiltin schemas kind types.Boolean
FitsKind schemas (Num (Int i)) kind = DerivesFromBuiltin schemas kind types.Integer
FitsKind schemas (Num (Dec u)) kind = DerivesFromBuiltin schemas kind types.Decimal × ¬ DerivesFromBuiltin schemas kind types.Integer

abbrev pub FitsItsType : SchemaSet → Atomic → Type 0
FitsItsType schemas a = FitsKind schemas a.value a.kind
