use Rattle.gx_static.proofs.Switches.{switch_keeps}
use Rattle.gx_static.proofs.laws.switch_keeps_its_type.Goals as goal

pub returns : goal.returns
returns c = switch_keeps
