use Rattle.gx_schema_restriction.proofs.SomeJudgement as some
use Rattle.gx_schema_restriction.proofs.laws.a_judgement_exists.Goals as goal

pub returns : goal.returns
returns c = some.a_judgement_exists c.an_answer_exists.ensures
