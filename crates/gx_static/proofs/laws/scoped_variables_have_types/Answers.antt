use Rattle.gx_static.proofs.ScopedVariables.{scoped_variables_have_types}
use Rattle.gx_static.proofs.laws.scoped_variables_have_types.Goals as goal

pub returns : goal.returns
returns c = scoped_variables_have_types
