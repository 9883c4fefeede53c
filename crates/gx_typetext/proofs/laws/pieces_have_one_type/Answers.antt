use Rattle.gx_typetext.proofs.Builds.{one_type}
use Rattle.gx_typetext.proofs.laws.pieces_have_one_type.Goals as goal

pub returns : goal.returns
returns c = one_type
