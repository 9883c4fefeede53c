use Rattle.gx_static.proofs.Calls.{call_keeps}
use Rattle.gx_static.proofs.laws.call_keeps_its_type.Goals as goal

pub returns : goal.returns
returns c = call_keeps
