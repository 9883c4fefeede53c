use Rattle.gx_core.proofs.DecidingParts.{parts_decide}
use Rattle.gx_core.proofs.laws.parts_decide.Goals as goal

pub returns : goal.returns
returns c = parts_decide
