use Rattle.gx_typetext.proofs.Judged.{texts_are_judged}
use Rattle.gx_typetext.proofs.laws.texts_are_judged.Goals as goal

pub returns : goal.returns
returns c = texts_are_judged
