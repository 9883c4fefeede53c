use Rattle.std.proofs.Common.{arith}
use Rattle.std.proofs.lemmas.Grind.{common_steps}
use Rattle.gx_machine.proofs.converting.all_stay.Goals as goal

pub returns-then-not-item_stays : goal.returns-then-not-item_stays
returns-then-not-item_stays c = λ later. grind (arith, common_steps, c.loop-item.invariant later, c.item_stays.ensures later)

pub loop-item-preserved : goal.loop-item-preserved
loop-item-preserved c = λ later. grind (arith, common_steps, c.loop-item.invariant later, c.item_stays.ensures later)

pub returns : goal.returns
returns c = λ later. grind (arith, common_steps, c.loop-item.invariant later)
