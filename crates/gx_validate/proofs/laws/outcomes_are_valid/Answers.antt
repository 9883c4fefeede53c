use Rattle.gx_validate.proofs.Outcomes as outcomes
use Rattle.gx_validate.proofs.laws.outcomes_are_valid.Goals as goal

pub returns : goal.returns
returns c = outcomes.outcomes_are_valid
