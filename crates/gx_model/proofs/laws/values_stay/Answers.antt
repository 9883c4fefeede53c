use Rattle.gx_model.proofs.PublicLaws.{values_stay}
use Rattle.gx_model.proofs.laws.values_stay.Goals as goal

pub returns : goal.returns
returns c = values_stay
