use Rattle.gx_plan.proofs.FittingEvaluations.{evaluations_fit}
use Rattle.gx_plan.proofs.laws.evaluations_fit.Goals as goal

pub returns : goal.returns
returns c = evaluations_fit
