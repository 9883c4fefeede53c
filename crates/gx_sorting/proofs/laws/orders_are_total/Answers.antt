use Rattle.gx_sorting.proofs.PublicLaws.{orders_are_total}
use Rattle.gx_sorting.proofs.laws.orders_are_total.Goals as goal

pub returns : goal.returns
returns c = orders_are_total
