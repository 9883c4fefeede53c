use Rattle.gx_rule_laws.proofs.AllRules.{rules_hand_on}
use Rattle.gx_rule_laws.proofs.laws.rules_hand_on.Goals as goal

pub returns : goal.returns
returns c = rules_hand_on
