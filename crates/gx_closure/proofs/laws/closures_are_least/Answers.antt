use Rattle.gx_closure.proofs.Closures as closures
use Rattle.gx_closure.proofs.laws.closures_are_least.Goals as goal

pub returns : goal.returns
returns g c = closures.closures_are_least g.T.PartialEq.eq g.met.T.Eq.laws
