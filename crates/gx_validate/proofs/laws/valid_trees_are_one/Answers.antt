use Rattle.gx_validate.proofs.Outcomes as outcomes
use Rattle.gx_validate.proofs.laws.valid_trees_are_one.Goals as goal

pub returns : goal.returns
returns c = outcomes.valid_trees_are_one
