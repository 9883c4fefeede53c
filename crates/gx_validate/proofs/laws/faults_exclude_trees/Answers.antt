use Rattle.gx_validate.proofs.Outcomes as outcomes
use Rattle.gx_validate.proofs.laws.faults_exclude_trees.Goals as goal

pub returns : goal.returns
returns c = outcomes.faults_exclude_trees
