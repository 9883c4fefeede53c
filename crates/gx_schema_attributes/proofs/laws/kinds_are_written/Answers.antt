use Rattle.gx_schema_attributes.proofs.KindLemmas.{kinds_are_written}
use Rattle.gx_schema_attributes.proofs.laws.kinds_are_written.Goals as goal

pub returns : goal.returns
returns c = kinds_are_written
