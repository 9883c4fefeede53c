use Rattle.std.proofs.Common.{◌≡◌, ◌-◌}
use Rattle.gx_schema_simple.specs.Walk.{has_mark}
use Rattle.gx_schema.specs.FirstNumber.{first_number}
use Rattle.gx_schema.proofs.circular.first_marked.Given as goal

abbrev pub invariant-loop-number : goal.invariant-loop-number
invariant-loop-number l = first_number (has_mark l.marks) l.number (l.count - l.number) ≡ first_number (has_mark l.marks) 0 l.count
