use Rattle.gx_static.proofs.Keeping.{let_keeps}
use Rattle.gx_static.proofs.laws.let_keeps_its_type.Goals as goal

pub returns : goal.returns
returns c = let_keeps
