use Rattle.gx_atomic.proofs.DeclaredCasts.{own_declared_type}
use Rattle.gx_atomic.proofs.laws.casts_to_the_own_declared_type_change_nothing.Goals as goal

pub returns : goal.returns
returns c = own_declared_type c.printed_values_read_back.ensures
