use Rattle.gx_settling.proofs.CallableFunctions as callable
use Rattle.gx_settling.proofs.laws.body_calls_are_callable.Goals as goal

pub returns : goal.returns
returns c = callable.body_calls_are_callable
