use Rattle.gx_references.proofs.ReachSteps.{ways_back_are_short}
use Rattle.gx_references.proofs.laws.ways_back_are_short.Goals as goal

pub returns : goal.returns
returns g c = ways_back_are_short g.B.Body.named
