use Rattle.gx_sorting.proofs.PublicLaws.{images_are_sorted}
use Rattle.gx_sorting.proofs.laws.images_are_sorted.Goals as goal

pub returns : goal.returns
returns g c = images_are_sorted _ _
