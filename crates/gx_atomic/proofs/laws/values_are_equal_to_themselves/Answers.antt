use Rattle.gx_atomic.proofs.PublicLaws.{values_are_equal_to_themselves}
use Rattle.gx_atomic.proofs.laws.values_are_equal_to_themselves.Goals as goal

pub returns : goal.returns
returns c = values_are_equal_to_themselves
