use Rattle.gx_atomic.proofs.PublicLaws.{comparisons_fail_in_one_way}
use Rattle.gx_atomic.proofs.laws.comparisons_fail_in_one_way.Goals as goal

pub returns : goal.returns
returns c = comparisons_fail_in_one_way
