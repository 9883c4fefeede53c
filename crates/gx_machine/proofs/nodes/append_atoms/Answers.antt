use Rattle.std.proofs.Common.{arith}
use Rattle.std.proofs.lemmas.Grind.{common_steps}
use Rattle.gx_machine.proofs.nodes.append_atoms.Goals as goal

pub loop-value-preserved : goal.loop-value-preserved
loop-value-preserved c = λ later. grind (arith, common_steps, c.loop-value.invariant later, c.in_ok-push_atom.ensures later)

pub returns : goal.returns
returns c = λ later. grind (arith, common_steps, c.loop-value.invariant later)
