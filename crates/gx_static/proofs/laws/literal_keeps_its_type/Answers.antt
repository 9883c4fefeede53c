use Rattle.gx_static.proofs.Keeping.{literal_keeps}
use Rattle.gx_static.proofs.laws.literal_keeps_its_type.Goals as goal

pub returns : goal.returns
returns c = literal_keeps
