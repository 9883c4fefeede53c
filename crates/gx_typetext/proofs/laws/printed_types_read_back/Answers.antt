use Rattle.gx_typetext.proofs.PrintedTypes.{printed_types_read_back}
use Rattle.gx_typetext.proofs.laws.printed_types_read_back.Goals as goal

pub returns : goal.returns
returns c = printed_types_read_back
