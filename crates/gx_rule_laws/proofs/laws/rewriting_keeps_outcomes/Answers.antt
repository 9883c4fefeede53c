use Rattle.gx_rule_laws.proofs.RewrittenPlans.{rewriting_keeps_outcomes}
use Rattle.gx_rule_laws.proofs.laws.rewriting_keeps_outcomes.Goals as goal

pub returns : goal.returns
returns c = rewriting_keeps_outcomes
