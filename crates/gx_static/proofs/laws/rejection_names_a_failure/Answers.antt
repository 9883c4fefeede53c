use Rattle.gx_static.proofs.Failing.{rejection_names_failure}
use Rattle.gx_static.proofs.laws.rejection_names_a_failure.Goals as goal

pub returns : goal.returns
returns c = rejection_names_failure
