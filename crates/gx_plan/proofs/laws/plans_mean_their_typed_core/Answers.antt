use Rattle.gx_plan.proofs.TypedPlans.{plans_mean_their_typed_core}
use Rattle.gx_plan.proofs.laws.plans_mean_their_typed_core.Goals as goal

pub returns : goal.returns
returns c = plans_mean_their_typed_core
