use Rattle.std.proofs.Common.{◌≡◌, drop}
use Rattle.indexmap.specs.IndexMap.{get}
use Rattle.gx_base.specs.Name.{same_name}
use Rattle.gx_base.specs.declared.name.Name.{Name as NameRecord}
use Rattle.gx_schema_components.specs.DeclaredNames.{first_type_from}
use Rattle.gx_schema_components.proofs.names.type_numbers.Given as goal

-- the types behind a place have their numbers
abbrev pub invariant-loop-number : goal.invariant-loop-number
invariant-loop-number l = (name : NameRecord) → get same_name l.table name ≡ first_type_from l.number (drop l.number l.names) name
