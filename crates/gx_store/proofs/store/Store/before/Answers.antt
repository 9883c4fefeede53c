use Rattle.std.proofs.Common.{sym}
use Rattle.gx_nodes.proofs.NumberOrder.{before_is}
use Rattle.gx_store.proofs.store.Store.before.Goals as goal

pub returns : goal.returns
returns c = sym (before_is c.args.self.now c.args.a.number c.args.b.number)
