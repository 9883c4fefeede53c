use Rattle.gx_static.proofs.DemandLaws.{met_demands_are_inclusion}
use Rattle.gx_static.proofs.laws.met_demands_are_inclusion.Goals as goal

pub returns : goal.returns
returns c = met_demands_are_inclusion
