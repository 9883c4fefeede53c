use Rattle.gx_static.proofs.Keeping.{variable_keeps}
use Rattle.gx_static.proofs.laws.variable_keeps_its_type.Goals as goal

pub returns : goal.returns
returns c = variable_keeps
