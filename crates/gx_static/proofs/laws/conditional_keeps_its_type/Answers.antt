use Rattle.gx_static.proofs.Conditionals.{conditional_keeps}
use Rattle.gx_static.proofs.laws.conditional_keeps_its_type.Goals as goal

pub returns : goal.returns
returns c = conditional_keeps
