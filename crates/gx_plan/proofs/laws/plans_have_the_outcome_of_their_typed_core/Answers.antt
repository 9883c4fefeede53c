use Rattle.gx_plan.proofs.TypedPlans.{plans_have_the_outcome_of_their_typed_core}
use Rattle.gx_plan.proofs.laws.plans_have_the_outcome_of_their_typed_core.Goals as goal

pub returns : goal.returns
returns c = plans_have_the_outcome_of_their_typed_core
