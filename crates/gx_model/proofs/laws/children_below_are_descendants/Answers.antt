use Rattle.gx_model.proofs.DescendantLemmas.{children_below_are_descendants}
use Rattle.gx_model.proofs.laws.children_below_are_descendants.Goals as goal

pub returns : goal.returns
returns c = children_below_are_descendants
