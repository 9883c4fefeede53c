use Rattle.gx_static.proofs.Paths.{no_context_keeps}
use Rattle.gx_static.proofs.laws.no_context_keeps_its_type.Goals as goal

pub returns : goal.returns
returns c = no_context_keeps
