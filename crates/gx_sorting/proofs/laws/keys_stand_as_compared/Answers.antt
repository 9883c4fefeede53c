use Rattle.gx_sorting.proofs.PublicLaws.{keys_stand_as_compared}
use Rattle.gx_sorting.proofs.laws.keys_stand_as_compared.Goals as goal

pub returns : goal.returns
returns c = keys_stand_as_compared
