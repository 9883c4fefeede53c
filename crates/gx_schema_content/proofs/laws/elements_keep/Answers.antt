use Rattle.gx_schema_content.proofs.KeptKinds.{elements_keep}
use Rattle.gx_schema_content.proofs.laws.elements_keep.Goals as goal

pub returns : goal.returns
returns c = elements_keep
