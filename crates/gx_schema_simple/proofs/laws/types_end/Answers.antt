use Rattle.gx_schema_simple.proofs.EndLemmas.{types_end}
use Rattle.gx_schema_simple.proofs.laws.types_end.Goals as goal

pub returns : goal.returns
returns c = types_end
