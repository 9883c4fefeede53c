use Rattle.gx_include.proofs.OneAnswer as one_answer
use Rattle.gx_include.proofs.laws.too_many_pairs_exclude_verdicts.Goals as goal

pub returns : goal.returns
returns c = one_answer.too_many_pairs_exclude_verdicts
