use Rattle.gx_rule_laws.proofs.FairPlans.{rewritten_plans_have_fair_joins}
use Rattle.gx_rule_laws.proofs.laws.rewritten_plans_have_fair_joins.Goals as goal

pub returns : goal.returns
returns c = rewritten_plans_have_fair_joins
