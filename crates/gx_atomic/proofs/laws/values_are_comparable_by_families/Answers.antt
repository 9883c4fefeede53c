use Rattle.gx_atomic.proofs.PublicLaws.{values_are_comparable_by_families}
use Rattle.gx_atomic.proofs.laws.values_are_comparable_by_families.Goals as goal

pub returns : goal.returns
returns c = values_are_comparable_by_families
