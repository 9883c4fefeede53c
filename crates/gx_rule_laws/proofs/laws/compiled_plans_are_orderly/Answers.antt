use Rattle.gx_rule_laws.proofs.OrderlyPlans.{compiled_plans_are_orderly}
use Rattle.gx_rule_laws.proofs.laws.compiled_plans_are_orderly.Goals as goal

pub returns : goal.returns
returns c = compiled_plans_are_orderly
