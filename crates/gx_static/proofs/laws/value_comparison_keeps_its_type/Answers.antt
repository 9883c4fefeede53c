use Rattle.gx_static.proofs.Comparisons.{value_comparison_keeps}
use Rattle.gx_static.proofs.laws.value_comparison_keeps_its_type.Goals as goal

pub returns : goal.returns
returns c = value_comparison_keeps
