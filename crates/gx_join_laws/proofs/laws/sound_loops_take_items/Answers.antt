use Rattle.gx_join_laws.proofs.LoopItems.{sound_loops_take_items}
use Rattle.gx_join_laws.proofs.laws.sound_loops_take_items.Goals as goal

pub returns : goal.returns
returns c = sound_loops_take_items
