use Rattle.gx_core.proofs.HonestTrees.{constructors_keep_forests_honest}
use Rattle.gx_core.proofs.laws.constructors_keep_forests_honest.Goals as goal

pub returns : goal.returns
returns c = constructors_keep_forests_honest
