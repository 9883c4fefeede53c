use Rattle.std.proofs.Common.{◌≡◌, drop}
use Rattle.indexmap.specs.IndexMap.{get}
use Rattle.gx_base.specs.declared.type_name.TypeName.{TypeName}
use Rattle.gx_types.specs.SchemaSet.{declaration_among}
use Rattle.gx_types.specs.TypeIndex.{equal_kinds, numbered_type}
use Rattle.gx_types.proofs.declared_types.numbers_of.Given as goal

-- the types behind a place are found
abbrev pub invariant-loop-number : goal.invariant-loop-number
invariant-loop-number l = (t : TypeName) → numbered_type l.types (get equal_kinds l.numbers t) ≡ declaration_among (drop l.number l.types) t
