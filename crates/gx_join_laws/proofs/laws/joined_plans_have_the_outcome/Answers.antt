use Rattle.gx_join_laws.proofs.JoinedPlans.{joined_plans_have_the_outcome}
use Rattle.gx_join_laws.proofs.laws.joined_plans_have_the_outcome.Goals as goal

pub returns : goal.returns
returns c = joined_plans_have_the_outcome
