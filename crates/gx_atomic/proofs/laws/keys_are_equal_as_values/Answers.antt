use Rattle.gx_atomic.proofs.PublicLaws.{keys_are_equal_as_values}
use Rattle.gx_atomic.proofs.laws.keys_are_equal_as_values.Goals as goal

pub returns : goal.returns
returns c = keys_are_equal_as_values
