use Rattle.gx_core.proofs.InstanceLemmas.{instances_are_exact}
use Rattle.gx_core.proofs.laws.instances_are_exact.Goals as goal

pub returns : goal.returns
returns c = instances_are_exact
