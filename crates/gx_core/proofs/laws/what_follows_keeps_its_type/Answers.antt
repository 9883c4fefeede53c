use Rattle.gx_core.proofs.KeptFacts.{after_keeps}
use Rattle.gx_core.proofs.laws.what_follows_keeps_its_type.Goals as goal

pub returns : goal.returns
returns c = after_keeps
