use Rattle.gx_rule_laws.proofs.ApartRewriting.{rewriting_keeps_joins_apart}
use Rattle.gx_rule_laws.proofs.laws.rewriting_keeps_joins_apart.Goals as goal

pub returns : goal.returns
returns c = rewriting_keeps_joins_apart
