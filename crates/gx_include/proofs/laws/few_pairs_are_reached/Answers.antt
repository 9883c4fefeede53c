use Rattle.gx_include.proofs.Bound as bound
use Rattle.gx_include.proofs.laws.few_pairs_are_reached.Goals as goal

pub returns : goal.returns
returns c = bound.few_pairs_are_reached
