use Rattle.gx_core.proofs.DynamicCodes.{expressions_raise_dynamic_codes}
use Rattle.gx_core.proofs.laws.expressions_raise_dynamic_codes.Goals as goal

pub returns : goal.returns
returns c = expressions_raise_dynamic_codes
