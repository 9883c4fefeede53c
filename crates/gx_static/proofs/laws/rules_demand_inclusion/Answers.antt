use Rattle.gx_static.proofs.DemandRules.{all_rules_demand_inclusion}
use Rattle.gx_static.proofs.laws.rules_demand_inclusion.Goals as goal

pub returns : goal.returns
returns c = all_rules_demand_inclusion
