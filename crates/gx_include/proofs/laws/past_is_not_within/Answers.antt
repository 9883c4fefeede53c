use Rattle.gx_include.proofs.Counts as counts
use Rattle.gx_include.proofs.laws.past_is_not_within.Goals as goal

pub returns : goal.returns
returns c = counts.past_is_not_within
