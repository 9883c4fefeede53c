use Rattle.gx_schema_simple.proofs.EndLemmas.{none_is_circular}
use Rattle.gx_schema_simple.proofs.laws.none_is_circular.Goals as goal

pub returns : goal.returns
returns c = none_is_circular
