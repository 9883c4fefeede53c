use Rattle.gx_static.proofs.DemandLaws.{demands_are_inclusion}
use Rattle.gx_static.proofs.laws.demands_are_inclusion.Goals as goal

pub returns : goal.returns
returns c = demands_are_inclusion
