use Rattle.gx_references.specs.Known.{known}
use Rattle.gx_schema_content.specs.Knots.{IsListBelow}
use Rattle.gx_schema_content.proofs.positions.counts_of.Given as goal

abbrev pub invariant-loop-number : goal.invariant-loop-number
invariant-loop-number l = IsListBelow l.number (known 0 l.table) l.counts.items
