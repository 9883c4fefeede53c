use Rattle.gx_typetext.proofs.TypesRead.{one_text_type}
use Rattle.gx_typetext.proofs.laws.type_texts_have_one_type.Goals as goal

pub returns : goal.returns
returns c = one_text_type
