use Rattle.gx_rule_laws.proofs.SortedOperands.{sorted_keeps}
use Rattle.gx_rule_laws.proofs.laws.sorted_keeps.Goals as goal

pub returns : goal.returns
returns c = sorted_keeps
