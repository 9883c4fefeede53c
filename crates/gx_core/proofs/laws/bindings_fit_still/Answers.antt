use Rattle.gx_core.proofs.KeptFacts.{bindings_fit_still, binding_fits}
use Rattle.gx_core.proofs.laws.bindings_fit_still.Goals as goal

pub returns-clause-grown : goal.returns-clause-grown
returns-clause-grown c = bindings_fit_still

pub returns-clause-bound : goal.returns-clause-bound
returns-clause-bound c = binding_fits
