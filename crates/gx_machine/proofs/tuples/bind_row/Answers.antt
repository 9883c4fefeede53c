use Rattle.std.proofs.Common.{◌∙◌}
use Rattle.gx_machine.proofs.BlockResuming.{next_bound}
use Rattle.gx_machine.proofs.tuples.bind_row.Goals as goal

pub loop-variable-preserved : goal.loop-variable-preserved
loop-variable-preserved c = λ later.
    next_bound later c.in-Some.inner.now c.loop-variable.rest.now c.loop-variable.scope c.bind.new.self c.in-Some.field-0-0.now c.in_ok-copy.field-0 c.in-Some.ensures.cases.0 c.in_ok-bind.ensures (c.in_ok-copy.ensures later)
    ∙ c.loop-variable.invariant later
