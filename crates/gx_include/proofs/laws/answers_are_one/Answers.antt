use Rattle.gx_include.proofs.OneAnswer as one_answer
use Rattle.gx_include.proofs.laws.answers_are_one.Goals as goal

pub returns : goal.returns
returns c = one_answer.answers_are_one
