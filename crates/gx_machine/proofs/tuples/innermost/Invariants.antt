use Rattle.std.proofs.Common.{◌≡◌, take}
use Rattle.gx_model.specs.Forest.{Forest}
use Rattle.gx_machine.specs.BoundItems.{items_of}
use Rattle.gx_machine.proofs.tuples.innermost.Given as goal

-- so many bindings are copied
abbrev pub invariant-loop-depth : goal.invariant-loop-depth
invariant-loop-depth l = (later : Forest) → items_of later l.row.items ≡ take l.depth (items_of later l.scope)
