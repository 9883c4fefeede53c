use Rattle.gx_static.proofs.Keeping.{empty_keeps}
use Rattle.gx_static.proofs.laws.empty_sequence_keeps_its_type.Goals as goal

pub returns : goal.returns
returns c = empty_keeps
