use Rattle.gx_static.proofs.Blocks.{block_keeps}
use Rattle.gx_static.proofs.laws.block_keeps_its_type.Goals as goal

pub returns : goal.returns
returns c = block_keeps
