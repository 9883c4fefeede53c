use Rattle.gx_rule_laws.proofs.AllRules.{rewriting_keeps}
use Rattle.gx_rule_laws.proofs.laws.rewriting_keeps.Goals as goal

pub returns : goal.returns
returns c = rewriting_keeps
