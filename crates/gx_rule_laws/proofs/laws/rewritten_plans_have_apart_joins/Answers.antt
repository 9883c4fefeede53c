use Rattle.gx_rule_laws.proofs.ApartPlans.{rewritten_plans_have_apart_joins}
use Rattle.gx_rule_laws.proofs.laws.rewritten_plans_have_apart_joins.Goals as goal

pub returns : goal.returns
returns c = rewritten_plans_have_apart_joins
