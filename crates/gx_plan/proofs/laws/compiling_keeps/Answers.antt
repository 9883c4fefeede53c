use Rattle.gx_plan.proofs.ReplacingParts.{compiling_keeps}
use Rattle.gx_plan.proofs.laws.compiling_keeps.Goals as goal

pub returns : goal.returns
returns c = compiling_keeps
