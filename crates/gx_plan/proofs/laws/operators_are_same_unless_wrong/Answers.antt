use Rattle.gx_plan.proofs.UnlessWrong.{operators_are_same_unless_wrong}
use Rattle.gx_plan.proofs.laws.operators_are_same_unless_wrong.Goals as goal

pub returns : goal.returns
returns c = operators_are_same_unless_wrong
