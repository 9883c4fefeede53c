use Rattle.gx_core.proofs.KeptFacts.{operands_keep}
use Rattle.gx_core.proofs.laws.operands_keep_their_types.Goals as goal

pub returns : goal.returns
returns c = operands_keep
