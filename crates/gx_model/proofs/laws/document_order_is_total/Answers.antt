use Rattle.gx_model.proofs.OrderLemmas.{order_is_total}
use Rattle.gx_model.proofs.laws.document_order_is_total.Goals as goal

pub returns : goal.returns
returns c = order_is_total
