use Rattle.gx_core.proofs.SoundQueries.{sound_queries_keep}
use Rattle.gx_core.proofs.laws.sound_queries_keep_their_types.Goals as goal

pub returns : goal.returns
returns c = sound_queries_keep
