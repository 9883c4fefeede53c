use Rattle.gx_static.proofs.Picking.{nth_keeps}
use Rattle.gx_static.proofs.laws.nth_keeps_its_type.Goals as goal

pub returns : goal.returns
returns c = nth_keeps
