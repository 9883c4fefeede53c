use Rattle.std.proofs.Common.{arith}
use Rattle.std.proofs.lemmas.Grind.{common_steps}
use Rattle.gx_machine.proofs.operand.all_nodes.Goals as goal

pub returns-then-not-is_node : goal.returns-then-not-is_node
returns-then-not-is_node c = λ later. grind (arith, common_steps, c.loop-item.invariant later, c.is_node.ensures later)

pub loop-item-preserved : goal.loop-item-preserved
loop-item-preserved c = λ later. grind (arith, common_steps, c.loop-item.invariant later, c.is_node.ensures later)

pub returns : goal.returns
returns c = λ later. grind (arith, common_steps, c.loop-item.invariant later)
