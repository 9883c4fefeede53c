use Rattle.gx_funcs.proofs.ForemostLemmas.{first_of_foremost_numbers}
use Rattle.gx_funcs.proofs.laws.foremost_numbers_are_first.Goals as goal

pub returns : goal.returns
returns c = first_of_foremost_numbers
