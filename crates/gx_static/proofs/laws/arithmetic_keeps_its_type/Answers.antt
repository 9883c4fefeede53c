use Rattle.gx_static.proofs.Arithmetic.{arithmetic_keeps}
use Rattle.gx_static.proofs.laws.arithmetic_keeps_its_type.Goals as goal

pub returns : goal.returns
returns c = arithmetic_keeps
