use Rattle.gx_static.proofs.Quantifiers.{some_keeps, every_keeps}
use Rattle.gx_static.proofs.laws.quantifiers_keep_their_type.Goals as goal

pub returns-clause-some : goal.returns-clause-some
returns-clause-some c = some_keeps

pub returns-clause-every : goal.returns-clause-every
returns-clause-every c = every_keeps
