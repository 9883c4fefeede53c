use Rattle.gx_plan.proofs.StandIns.{parts_of_sound_queries_keep_their_types}
use Rattle.gx_plan.proofs.laws.parts_of_sound_queries_keep_their_types.Goals as goal

pub returns : goal.returns
returns c = parts_of_sound_queries_keep_their_types
