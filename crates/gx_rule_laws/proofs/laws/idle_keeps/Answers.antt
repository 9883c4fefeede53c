use Rattle.gx_rule_laws.proofs.IdleOperators.{idle_keeps}
use Rattle.gx_rule_laws.proofs.laws.idle_keeps.Goals as goal

pub returns : goal.returns
returns c = idle_keeps
