use Rattle.gx_plan.proofs.WalkLemmas.{block_in_order}
use Rattle.gx_plan.proofs.walk.put_parts.Goals as goal

pub returns-in-Block : goal.returns-in-Block
returns-in-Block g c =
    rw (c.in-Block.is, block_in_order, ← c.as_slice-in-Block.ensures.value, ← c.as_slice-in-Block-2.ensures.value, ← c.deref-in-Block.ensures) c.put_block.ensures
