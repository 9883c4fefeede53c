use Rattle.gx_normal.proofs.PublicLaws.{cores_are_well_formed}
use Rattle.gx_normal.proofs.laws.cores_are_well_formed.Goals as goal

pub returns : goal.returns
returns c = cores_are_well_formed
