use Rattle.std.proofs.Common.{◌≡◌, ◌++◌, length}
use Rattle.gx_model.specs.Forest.{Forest}
use Rattle.gx_machine.specs.BoundItems.{items_of}
use Rattle.gx_machine.proofs.tuples.bind_row.Given as goal

-- what is left of the tuple stands before what is bound
abbrev pub invariant-loop-variable : goal.invariant-loop-variable
invariant-loop-variable l = (later : Forest) → items_of later l.rest ++ items_of later l.scope ≡ items_of later l.fn.row ++ items_of later l.fn.scope

abbrev pub decreases-loop-variable : goal.decreases-loop-variable
decreases-loop-variable l = length l.rest
