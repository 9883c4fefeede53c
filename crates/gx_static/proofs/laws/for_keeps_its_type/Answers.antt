use Rattle.gx_static.proofs.Loops.{for_keeps}
use Rattle.gx_static.proofs.laws.for_keeps_its_type.Goals as goal

pub returns : goal.returns
returns c = for_keeps
