use Rattle.gx_static.proofs.Orders.{order_keeps}
use Rattle.gx_static.proofs.laws.order_keeps_its_type.Goals as goal

pub returns : goal.returns
returns c = order_keeps
