use Rattle.gx_core.proofs.DeclaredCalls.{well_formed_queries_call_declared_functions}
use Rattle.gx_core.proofs.laws.well_formed_queries_call_declared_functions.Goals as goal

pub returns : goal.returns
returns c = well_formed_queries_call_declared_functions
