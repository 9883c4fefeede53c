use Rattle.gx_settling.proofs.CallableFunctions as callable
use Rattle.gx_settling.proofs.laws.calls_are_callable.Goals as goal

pub returns : goal.returns
returns c = callable.calls_are_callable
