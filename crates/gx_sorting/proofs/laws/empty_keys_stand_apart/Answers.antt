use Rattle.gx_sorting.proofs.PublicLaws.{empty_keys_stand_apart}
use Rattle.gx_sorting.proofs.laws.empty_keys_stand_apart.Goals as goal

pub returns : goal.returns
returns c = empty_keys_stand_apart
