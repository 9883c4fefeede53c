use Rattle.gx_rule_laws.proofs.FairPlans.{compiled_plans_have_no_join}
use Rattle.gx_rule_laws.proofs.laws.compiled_plans_have_no_join.Goals as goal

pub returns : goal.returns
returns c = compiled_plans_have_no_join
