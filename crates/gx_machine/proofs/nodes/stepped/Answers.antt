use Rattle.std.proofs.Common.{sym}
use Rattle.gx_store.specs.Items.{items_in}
use Rattle.gx_machine.proofs.NodeOperators.{step_from_none}
use Rattle.gx_machine.proofs.nodes.stepped.Goals as goal

pub returns-in-None-clause-failed : goal.returns-in-None-clause-failed
returns-in-None-clause-failed c = λ later x.
    step_from_none c.args.schemas.now c.args.axis c.args.test.now (items_in later c.args.operand.now) c.args.store.now (sym (c.in-None.ensures later))
