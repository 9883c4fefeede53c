use Rattle.gx_typetext.proofs.Sizes.{type_texts_are_short}
use Rattle.gx_typetext.proofs.laws.type_texts_are_short.Goals as goal

pub returns : goal.returns
returns c = type_texts_are_short
