use Rattle.gx_settling.proofs.GatheringLemmas.{listed_block}
use Rattle.gx_settling.proofs.uses.put_parts.Goals as goal

pub returns-in-Block : goal.returns-in-Block
returns-in-Block g c =
    rw (c.in-Block.is, listed_block, ← c.as_slice-in-Block.ensures.value, ← c.as_slice-in-Block-2.ensures.value, ← c.deref-in-Block.ensures) c.put_block.ensures
