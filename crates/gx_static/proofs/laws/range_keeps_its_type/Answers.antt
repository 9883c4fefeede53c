use Rattle.gx_static.proofs.Ranges.{range_keeps}
use Rattle.gx_static.proofs.laws.range_keeps_its_type.Goals as goal

pub returns : goal.returns
returns c = range_keeps
