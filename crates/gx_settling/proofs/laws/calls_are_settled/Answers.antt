use Rattle.gx_settling.proofs.SettledFunctions as settled
use Rattle.gx_settling.proofs.laws.calls_are_settled.Goals as goal

pub returns : goal.returns
returns g c = settled.calls_are_settled
