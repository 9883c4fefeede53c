use Rattle.gx_plan.specs.declared.plan.Carried.{Carried}
use Rattle.gx_plan.proofs.SameOutcomes.{same_queries_have_the_outcome}
use Rattle.gx_plan.proofs.laws.same_queries_have_the_outcome.Goals as goal

pub returns : goal.returns
returns c = same_queries_have_the_outcome Carried
