use Rattle.gx_processor.proofs.AnswerLemmas.{check_refused}
use Rattle.gx_processor.proofs.laws.checks_refuse_for_runs.Goals as goal

pub returns : goal.returns
returns c = check_refused
