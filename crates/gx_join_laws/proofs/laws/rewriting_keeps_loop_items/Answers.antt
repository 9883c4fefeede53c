use Rattle.gx_join_laws.proofs.LoopsInRewriting.{rewriting_keeps_loop_items}
use Rattle.gx_join_laws.proofs.laws.rewriting_keeps_loop_items.Goals as goal

pub returns : goal.returns
returns c = rewriting_keeps_loop_items
