use Rattle.gx_atomic.proofs.PublicLaws.{casts_fail_with_codes}
use Rattle.gx_atomic.proofs.laws.casts_fail_with_codes.Goals as goal

pub returns : goal.returns
returns c = casts_fail_with_codes
