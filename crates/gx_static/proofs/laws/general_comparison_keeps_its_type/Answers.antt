use Rattle.gx_static.proofs.Comparisons.{general_comparison_keeps}
use Rattle.gx_static.proofs.laws.general_comparison_keeps_its_type.Goals as goal

pub returns : goal.returns
returns c = general_comparison_keeps
