use Rattle.std.proofs.Common.{arith}
use Rattle.gx_store.proofs.store.Store.behind.Goals as goal

pub returns-in-Attributes : goal.returns-in-Attributes
returns-in-Attributes c = rw c.in-Attributes.is (omega (arith, c.following.ensures.next))
