use Rattle.gx_atomic.proofs.TextCasts.{texts_are_cast_as_read}
use Rattle.gx_atomic.proofs.laws.texts_are_cast_as_they_are_read.Goals as goal

pub returns : goal.returns
returns c = texts_are_cast_as_read
