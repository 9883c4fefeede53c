use Rattle.std.proofs.Common.{◌≡◌, drop}
use Rattle.indexmap.specs.IndexMap.{get}
use Rattle.gx_base.specs.Name.{same_name}
use Rattle.gx_base.specs.declared.name.Name.{Name as NameRecord}
use Rattle.gx_base.specs.declared.type_name.TypeName.TheVariants as names
use Rattle.gx_schema.specs.TypeNumbers.{type_number_from}
use Rattle.gx_schema.proofs.type_numbers.named_numbers.Given as goal

-- the types behind a place have their numbers
abbrev pub invariant-loop-number : goal.invariant-loop-number
invariant-loop-number l = (name : NameRecord) → get same_name l.table name ≡ type_number_from l.number (drop l.number l.names) (names.Named name)
