use Rattle.gx_settling.proofs.UsesLemmas.{free_are_named}
use Rattle.gx_settling.proofs.laws.free_variables_are_named.Goals as goal

pub returns : goal.returns
returns g c = free_are_named
