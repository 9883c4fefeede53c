use Rattle.gx_atomic.proofs.OwnType.{text_back}
use Rattle.gx_atomic.proofs.laws.casts_of_printed_values_go_back.Goals as goal

pub returns : goal.returns
returns c = text_back c.printed_values_read_back.ensures
