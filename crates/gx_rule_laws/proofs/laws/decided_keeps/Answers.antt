use Rattle.gx_rule_laws.proofs.DecidedCases.{decided_keeps}
use Rattle.gx_rule_laws.proofs.laws.decided_keeps.Goals as goal

pub returns : goal.returns
returns c = decided_keeps
