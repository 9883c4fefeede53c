use Rattle.gx_schema_simple.proofs.NoFaults.{no_first_fault}
use Rattle.gx_schema_simple.proofs.laws.no_first_fault.Goals as goal

pub returns : goal.returns
returns c = no_first_fault
