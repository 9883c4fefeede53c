use Rattle.gx_schema_simple.proofs.SolvedVarieties.{varieties_solve}
use Rattle.gx_schema_simple.proofs.laws.varieties_solve.Goals as goal

pub returns : goal.returns
returns c = varieties_solve c.circles_are_endless.ensures.circle c.meanings_solve.ensures
