use Rattle.gx_include.proofs.SomeAnswer.{an_answer_exists}
use Rattle.gx_include.proofs.laws.an_answer_exists.Goals as goal

pub returns : goal.returns
returns c = an_answer_exists
