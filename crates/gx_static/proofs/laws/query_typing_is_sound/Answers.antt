use Rattle.gx_static.proofs.QueryLaws.{query_sound}
use Rattle.gx_static.proofs.laws.query_typing_is_sound.Goals as goal

pub returns : goal.returns
returns c = query_sound
