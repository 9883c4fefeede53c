use Rattle.gx_xml.proofs.OneReading.{one_document, not_refused, one_refusal}
use Rattle.gx_xml.proofs.laws.documents_are_read_in_one_way.Goals as goal

pub returns : goal.returns
returns c = record { tree = one_document; either = not_refused; refusal = one_refusal }
