use Rattle.gx_static.proofs.Arithmetic.{negation_keeps}
use Rattle.gx_static.proofs.laws.negation_keeps_its_type.Goals as goal

pub returns : goal.returns
returns c = negation_keeps
