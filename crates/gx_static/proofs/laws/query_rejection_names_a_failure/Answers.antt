use Rattle.gx_static.proofs.QueryLaws.{query_rejection_names_failure}
use Rattle.gx_static.proofs.laws.query_rejection_names_a_failure.Goals as goal

pub returns : goal.returns
returns c = query_rejection_names_failure
