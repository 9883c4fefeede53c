use Rattle.gx_processor.proofs.AnswerLemmas.{answers_are_alike}
use Rattle.gx_processor.proofs.laws.one_answer.Goals as goal

pub returns : goal.returns
returns c = answers_are_alike c.imports_are_one.ensures
