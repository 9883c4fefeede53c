use Rattle.gx_schema_content.proofs.WholeContentLemmas.{contents_are_whole}
use Rattle.gx_schema_content.proofs.laws.contents_are_whole.Goals as goal

pub returns : goal.returns
returns c = contents_are_whole
