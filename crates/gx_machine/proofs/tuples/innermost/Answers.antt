use Rattle.std.proofs.Common.{ap, ◌∙◌}
use Rattle.gx_machine.specs.BoundItems.{items_of}
use Rattle.gx_machine.proofs.BlockResuming.{next_copied}
use Rattle.gx_machine.proofs.tuples.innermost.Goals as goal

pub loop-depth-preserved : goal.loop-depth-preserved
loop-depth-preserved c = λ later.
    ap (items_of later) c.in_ok-push.ensures.items
    ∙ next_copied later c.args.scope.now c.loop-depth.row.items c.loop-depth.depth c.in-Some.variable c.in-Some.bound.now c.in_ok-copy.field-0 c.in-Some.ensures (c.in_ok-copy.ensures later) (c.loop-depth.invariant later)
