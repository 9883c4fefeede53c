use Rattle.gx_static.proofs.Keeping.{sequence_keeps}
use Rattle.gx_static.proofs.laws.sequence_keeps_its_type.Goals as goal

pub returns : goal.returns
returns c = sequence_keeps
