use Rattle.gx_static.proofs.StaticCodes.{queries_are_rejected_with_static_codes}
use Rattle.gx_static.proofs.laws.queries_are_rejected_with_static_codes.Goals as goal

pub returns : goal.returns
returns c = queries_are_rejected_with_static_codes
