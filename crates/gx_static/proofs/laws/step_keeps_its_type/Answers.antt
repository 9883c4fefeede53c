use Rattle.gx_static.proofs.Paths.{step_keeps}
use Rattle.gx_static.proofs.laws.step_keeps_its_type.Goals as goal

pub returns : goal.returns
returns c = step_keeps
