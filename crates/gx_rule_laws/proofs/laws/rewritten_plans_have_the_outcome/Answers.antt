use Rattle.gx_rule_laws.proofs.TypedOutcomes.{rewritten_plans_have_the_outcome}
use Rattle.gx_rule_laws.proofs.laws.rewritten_plans_have_the_outcome.Goals as goal

pub returns : goal.returns
returns c = rewritten_plans_have_the_outcome
