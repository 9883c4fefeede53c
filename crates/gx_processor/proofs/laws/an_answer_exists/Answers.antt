use Rattle.gx_processor.proofs.AnswerExists.{an_answer_exists}
use Rattle.gx_processor.proofs.laws.an_answer_exists.Goals as goal

pub returns : goal.returns
returns c = an_answer_exists c.an_import_exists.ensures c.imports_are_schema_sets.ensures c.plans_can_be_rewritten.ensures
