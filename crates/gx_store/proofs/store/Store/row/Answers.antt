use Rattle.std.proofs.Common.{arith}
use Rattle.gx_store.proofs.StoreLemmas.{row_at}
use Rattle.gx_store.proofs.store.Store.row.Goals as goal

pub returns-then-number-len : goal.returns-then-number-len
returns-then-number-len c = row_at c.self.inside.labels.labels.keys c.self.inside.rows.items c.args.self.now c.self.invariant c.self.view_is c.args.number c.index.result.now (omega (arith, c.if-number-len.true, c.len.ensures)) c.index.ensures
