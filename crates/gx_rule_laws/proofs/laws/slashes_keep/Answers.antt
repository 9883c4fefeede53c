use Rattle.gx_rule_laws.proofs.SlashedPaths.{slashes_keep}
use Rattle.gx_rule_laws.proofs.laws.slashes_keep.Goals as goal

pub returns : goal.returns
returns c = slashes_keep
