use Rattle.gx_static.proofs.Keeping.{data_keeps}
use Rattle.gx_static.proofs.laws.data_keeps_its_type.Goals as goal

pub returns : goal.returns
returns c = data_keeps
