use Rattle.gx_core.proofs.SoundQueries.{none_needs_no_document}
use Rattle.gx_core.proofs.laws.no_document_is_needed.Goals as goal

pub returns : goal.returns
returns c = none_needs_no_document
