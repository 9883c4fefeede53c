use Rattle.gx_subtype.proofs.SomeText.{an_answer_text_exists}
use Rattle.gx_subtype.proofs.laws.an_answer_text_exists.Goals as goal

pub returns : goal.returns
returns c = an_answer_text_exists
