use Rattle.gx_atomic.proofs.DeclaredCasts.{declared_value}
use Rattle.gx_atomic.proofs.laws.casts_to_declared_types_are_admitted.Goals as goal

pub returns : goal.returns
returns c = declared_value c.read_values_fit.ensures
