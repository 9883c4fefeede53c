use Rattle.gx_subtype.proofs.OneText.{one_text}
use Rattle.gx_subtype.proofs.laws.answer_texts_are_one.Goals as goal

pub returns : goal.returns
returns c = one_text
