use Rattle.gx_rule_laws.proofs.SingleItems.{single_keeps}
use Rattle.gx_rule_laws.proofs.laws.single_keeps.Goals as goal

pub returns : goal.returns
returns c = single_keeps
