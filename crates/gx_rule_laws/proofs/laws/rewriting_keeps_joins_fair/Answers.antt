use Rattle.gx_rule_laws.proofs.FairRewriting.{rewriting_keeps_joins_fair}
use Rattle.gx_rule_laws.proofs.laws.rewriting_keeps_joins_fair.Goals as goal

pub returns : goal.returns
returns c = rewriting_keeps_joins_fair
