use Rattle.gx_core.proofs.StepLoops.{loops_of_steps}
use Rattle.gx_core.proofs.laws.loops_of_steps_are_steps.Goals as goal

pub returns : goal.returns
returns c = loops_of_steps
