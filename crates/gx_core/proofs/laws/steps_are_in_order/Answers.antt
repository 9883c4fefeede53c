use Rattle.gx_core.proofs.StepsInOrder.{steps_are_in_order}
use Rattle.gx_core.proofs.laws.steps_are_in_order.Goals as goal

pub returns : goal.returns
returns c = steps_are_in_order
