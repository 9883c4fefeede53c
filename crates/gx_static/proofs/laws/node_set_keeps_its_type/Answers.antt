use Rattle.gx_static.proofs.NodeSets.{node_set_keeps}
use Rattle.gx_static.proofs.laws.node_set_keeps_its_type.Goals as goal

pub returns : goal.returns
returns c = node_set_keeps
