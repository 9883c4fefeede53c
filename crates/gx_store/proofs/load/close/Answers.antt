use Rattle.std.proofs.Common.{arith}
use Rattle.gx_store.proofs.OpenedLemmas.{closed_is}
use Rattle.gx_store.proofs.load.close.Goals as goal

pub returns : goal.returns
returns c =
    closed_is c.args.rows.now.items c.args.at c.in_ok-below.below c.index_mut-row.result.now c.requires c.index_mut-row.ensures.value
    (omega (arith, c.in_ok-below.ensures, c.len.ensures))
