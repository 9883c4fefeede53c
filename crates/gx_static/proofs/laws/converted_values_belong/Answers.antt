use Rattle.gx_static.proofs.UserCalls.{converted_values_belong}
use Rattle.gx_static.proofs.laws.converted_values_belong.Goals as goal

pub returns : goal.returns
returns c = converted_values_belong
