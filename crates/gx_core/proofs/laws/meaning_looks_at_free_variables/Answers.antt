use Rattle.gx_core.proofs.FreeMeaning.{meaning_looks_at_free_variables}
use Rattle.gx_core.proofs.laws.meaning_looks_at_free_variables.Goals as goal

pub returns : goal.returns
returns c = meaning_looks_at_free_variables
