use Rattle.gx_processor.proofs.AnswerLemmas.{plans_refuse_as_checks}
use Rattle.gx_processor.proofs.laws.plans_refuse_as_checks.Goals as goal

pub returns : goal.returns
returns c = plans_refuse_as_checks
