use Rattle.gx_model.proofs.ListedNodes.{nodes_ascend}
use Rattle.gx_model.proofs.Ordering.{ordered_ascend}
use Rattle.gx_model.proofs.laws.nodes_ascend.Goals as goal

pub returns : goal.returns
returns c = record { listed = nodes_ascend; ordered = ordered_ascend }
