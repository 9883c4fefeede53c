use Rattle.gx_core.proofs.StepLoops.{slashes_are_descendants}
use Rattle.gx_core.proofs.laws.slashes_are_descendants.Goals as goal

pub returns : goal.returns
returns c = slashes_are_descendants
