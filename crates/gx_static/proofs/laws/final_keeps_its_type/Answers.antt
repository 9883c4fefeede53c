use Rattle.gx_static.proofs.Picking.{final_keeps}
use Rattle.gx_static.proofs.laws.final_keeps_its_type.Goals as goal

pub returns : goal.returns
returns c = final_keeps
