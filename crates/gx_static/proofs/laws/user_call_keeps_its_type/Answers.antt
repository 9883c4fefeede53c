use Rattle.gx_static.proofs.UserCalls.{user_keeps}
use Rattle.gx_static.proofs.laws.user_call_keeps_its_type.Goals as goal

pub returns : goal.returns
returns c = user_keeps
