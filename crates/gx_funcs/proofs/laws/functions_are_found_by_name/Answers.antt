use Rattle.gx_funcs.proofs.FunctionLemmas.{functions_found}
use Rattle.gx_funcs.proofs.laws.functions_are_found_by_name.Goals as goal

pub returns : goal.returns
returns c = functions_found
