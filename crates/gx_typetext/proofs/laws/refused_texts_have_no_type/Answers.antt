use Rattle.gx_typetext.proofs.TypesRead.{refused_no_type}
use Rattle.gx_typetext.proofs.laws.refused_texts_have_no_type.Goals as goal

pub returns : goal.returns
returns c = refused_no_type
