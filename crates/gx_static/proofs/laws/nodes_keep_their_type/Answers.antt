use Rattle.gx_static.proofs.Paths.{nodes_keep}
use Rattle.gx_static.proofs.laws.nodes_keep_their_type.Goals as goal

pub returns : goal.returns
returns c = nodes_keep
