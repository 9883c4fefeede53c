use Rattle.gx_typetext.proofs.Verdicts.{verdict}
use Rattle.gx_typetext.proofs.laws.texts_have_verdicts.Goals as goal

pub returns : goal.returns
returns c = verdict
