use Rattle.gx_normal.proofs.PublicLaws.{cores_have_variables_in_order}
use Rattle.gx_normal.proofs.laws.cores_have_variables_in_order.Goals as goal

pub returns : goal.returns
returns c = cores_have_variables_in_order
