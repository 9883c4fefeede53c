use Rattle.gx_static.proofs.Casts.{castable_keeps}
use Rattle.gx_static.proofs.laws.castable_keeps_its_type.Goals as goal

pub returns : goal.returns
returns c = castable_keeps
