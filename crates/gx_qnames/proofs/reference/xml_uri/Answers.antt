use Rattle.std.specs.Str.{chars}
use Rattle.gx_qnames.proofs.reference.xml_uri.Goals as goal

pub returns : goal.returns
unfolding chars
returns c = c.from_str.ensures
