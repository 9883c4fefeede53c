use Rattle.gx_model.proofs.PublicLaws.{growth_is_an_order}
use Rattle.gx_model.proofs.laws.growth_is_an_order.Goals as goal

pub returns : goal.returns
returns c = growth_is_an_order
