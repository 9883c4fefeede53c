use Rattle.gx_xml.proofs.OneReading.{one_tree}
use Rattle.gx_xml.proofs.laws.one_source_tree.Goals as goal

pub returns : goal.returns
returns c = one_tree
