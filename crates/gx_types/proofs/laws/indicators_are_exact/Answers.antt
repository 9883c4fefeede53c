use Rattle.gx_types.proofs.PublicLaws.{indicators_are_exact}
use Rattle.gx_types.proofs.laws.indicators_are_exact.Goals as goal

pub returns : goal.returns
returns c = indicators_are_exact
