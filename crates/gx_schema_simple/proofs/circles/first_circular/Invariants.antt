use Rattle.std.proofs.Common.{◌≡◌, ◌-◌, length}
use Rattle.gx_schema_simple.specs.CircularTypes.{first_circular, first_circular_from}
use Rattle.gx_schema_simple.specs.Forms.{references_of}
use Rattle.gx_schema_simple.proofs.circles.first_circular.Given as goal

abbrev pub invariant-loop-number : goal.invariant-loop-number
invariant-loop-number l = first_circular_from (references_of l.forms) l.number (length l.forms - l.number) ≡ first_circular l.forms
