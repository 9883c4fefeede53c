use Rattle.gx_schema_simple.proofs.SolvedVarieties.{nothing_is_hidden}
use Rattle.gx_schema_simple.proofs.laws.nothing_is_hidden.Goals as goal

pub returns : goal.returns
returns c = nothing_is_hidden c.varieties_solve.ensures
