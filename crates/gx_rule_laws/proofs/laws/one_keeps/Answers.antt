use Rattle.gx_rule_laws.proofs.Ones.{one_keeps}
use Rattle.gx_rule_laws.proofs.laws.one_keeps.Goals as goal

pub returns : goal.returns
returns c = one_keeps
