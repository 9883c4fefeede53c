use Rattle.std.proofs.Common.{arith}
use Rattle.gx_store.proofs.StoreLemmas.{count_at}
use Rattle.gx_store.proofs.store.Store.following.Goals as goal

pub overflow_add-result : goal.overflow_add-result
overflow_add-result c = let count = count_at c.self.inside.labels.labels.keys c.self.inside.rows.items c.args.self.now c.self.invariant c.self.view_is in omega (arith, count)
