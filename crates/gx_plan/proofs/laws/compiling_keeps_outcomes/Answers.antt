use Rattle.gx_plan.proofs.CompiledQueries.{compiling_keeps_outcomes}
use Rattle.gx_plan.proofs.laws.compiling_keeps_outcomes.Goals as goal

pub returns : goal.returns
returns c = compiling_keeps_outcomes
