use Rattle.gx_xml.proofs.SomeReading.{a_reading_exists}
use Rattle.gx_xml.proofs.laws.documents_are_read.Goals as goal

pub returns : goal.returns
returns c = a_reading_exists
