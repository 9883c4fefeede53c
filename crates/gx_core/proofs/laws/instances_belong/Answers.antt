use Rattle.gx_core.proofs.InstanceLemmas.{instances_belong}
use Rattle.gx_core.proofs.laws.instances_belong.Goals as goal

pub returns : goal.returns
returns c = instances_belong
