use Rattle.std.proofs.Common.{◌≡◌, drop}
use Rattle.indexmap.specs.IndexMap.{get}
use Rattle.gx_base.specs.Name.{same_name}
use Rattle.gx_base.specs.declared.name.Name.{Name as NameRecord}
use Rattle.gx_schema_content.specs.Disagreement.{first_kind}
use Rattle.gx_schema_content.proofs.disagreement.first_kinds.Given as goal

-- the elements behind a place
abbrev pub invariant-loop-number : goal.invariant-loop-number
invariant-loop-number l = (name : NameRecord) → get same_name l.kinds name ≡ first_kind (drop l.number l.elements) name
