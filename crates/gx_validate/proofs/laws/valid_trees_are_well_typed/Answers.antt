use Rattle.gx_validate.proofs.HonestTrees as roots
use Rattle.gx_validate.proofs.laws.valid_trees_are_well_typed.Goals as goal

pub returns : goal.returns
returns c = roots.valid_trees_are_well_typed
