use Rattle.gx_plan.proofs.ReplacingParts.{well_bound_parts_may_be_replaced}
use Rattle.gx_plan.proofs.laws.well_bound_parts_may_be_replaced.Goals as goal

pub returns : goal.returns
returns c = well_bound_parts_may_be_replaced
