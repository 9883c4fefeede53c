use Rattle.gx_static.proofs.NodeComparisons.{node_comparison_keeps}
use Rattle.gx_static.proofs.laws.node_comparison_keeps_its_type.Goals as goal

pub returns : goal.returns
returns c = node_comparison_keeps
