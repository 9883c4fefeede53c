use Rattle.gx_atomic.proofs.PublicLaws.{casts_fit_their_target}
use Rattle.gx_atomic.proofs.laws.casts_fit_their_target.Goals as goal

pub returns : goal.returns
returns c = casts_fit_their_target
