use Rattle.gx_atomic.proofs.PublicLaws.{first_pair_decides}
use Rattle.gx_atomic.proofs.laws.first_pair_decides.Goals as goal

pub returns : goal.returns
returns c = first_pair_decides
