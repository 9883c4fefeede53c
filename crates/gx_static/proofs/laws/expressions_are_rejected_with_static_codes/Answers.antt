use Rattle.gx_static.proofs.StaticCodes.{expressions_are_rejected_with_static_codes}
use Rattle.gx_static.proofs.laws.expressions_are_rejected_with_static_codes.Goals as goal

pub returns : goal.returns
returns c = expressions_are_rejected_with_static_codes
