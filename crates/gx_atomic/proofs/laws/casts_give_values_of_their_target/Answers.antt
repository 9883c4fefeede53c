use Rattle.gx_atomic.proofs.TargetValues.{target_value}
use Rattle.gx_atomic.proofs.laws.casts_give_values_of_their_target.Goals as goal

pub returns : goal.returns
returns c = target_value c.read_values_fit.ensures
