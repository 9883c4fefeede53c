use Rattle.gx_core.proofs.DynamicCodes.{queries_raise_dynamic_codes}
use Rattle.gx_core.proofs.laws.queries_raise_dynamic_codes.Goals as goal

pub returns : goal.returns
returns c = queries_raise_dynamic_codes
