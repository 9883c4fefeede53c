use Rattle.gx_sorting.proofs.PublicLaws.{sorting_is_stable}
use Rattle.gx_sorting.proofs.laws.sorting_is_stable.Goals as goal

pub returns : goal.returns
returns g c = sorting_is_stable _
