use Rattle.gx_static.proofs.Treating.{treat_keeps}
use Rattle.gx_static.proofs.laws.treat_keeps_its_type.Goals as goal

pub returns : goal.returns
returns c = treat_keeps
