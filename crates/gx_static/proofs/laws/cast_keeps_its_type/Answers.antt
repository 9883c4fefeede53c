use Rattle.gx_static.proofs.Casts.{cast_keeps}
use Rattle.gx_static.proofs.laws.cast_keeps_its_type.Goals as goal

pub returns : goal.returns
returns c = cast_keeps
