use Rattle.gx_rule_laws.proofs.Joins.{joins_keep}
use Rattle.gx_rule_laws.proofs.laws.joins_keep.Goals as goal

pub returns : goal.returns
returns c = joins_keep
