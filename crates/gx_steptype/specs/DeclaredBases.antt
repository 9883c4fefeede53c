-- The bases of declared types.
use Rattle.std.specs.Prelude.{List, map}
use Rattle.gx_base.specs.declared.type_name.TypeName.{TypeName}
use Rattle.gx_closure.specs.Closure.{AreAmong}
use Rattle.gx_types.specs.declared.declaration.Declared.{Declared}
use Rattle.gx_types.specs.SameItemType.{same_type_name}
use Rattle.gx_types.specs.SchemaSet.{SchemaSet}

abbrev pub declared_bases : List Declared → List TypeName
declared_bases types = map (λ (declared : Declared). declared.base) types

-- a list has the base of each declared type
abbrev pub HasBases : SchemaSet → List TypeName → Type 0
HasBases schemas bases = AreAmong same_type_name bases (declared_bases schemas.types)
