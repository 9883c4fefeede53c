use Rattle.gx_schema_content.proofs.ContentPositions.{contents_are_bounded}
use Rattle.gx_schema_content.proofs.laws.contents_are_bounded.Goals as goal

pub returns : goal.returns
returns c = contents_are_bounded
