use Rattle.gx_rule_laws.proofs.FlatOperands.{flat_keeps}
use Rattle.gx_rule_laws.proofs.laws.flat_keeps.Goals as goal

pub returns : goal.returns
returns c = flat_keeps
