use Rattle.gx_sorting.proofs.PublicLaws.{numbers_are_of_sorted_tuples}
use Rattle.gx_sorting.proofs.laws.numbers_are_of_sorted_tuples.Goals as goal

pub returns : goal.returns
returns g c = numbers_are_of_sorted_tuples _
