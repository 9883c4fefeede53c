use Rattle.gx_typetext.proofs.TypeSorted.{types_readable}
use Rattle.gx_typetext.proofs.laws.type_texts_are_readable.Goals as goal

pub returns : goal.returns
returns c = types_readable
