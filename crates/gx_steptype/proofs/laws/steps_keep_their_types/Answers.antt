use Rattle.gx_steptype.proofs.StepTypes as steps
use Rattle.gx_steptype.proofs.laws.steps_keep_their_types.Goals as goal

pub returns : goal.returns
returns c = steps.steps_keep_their_types
