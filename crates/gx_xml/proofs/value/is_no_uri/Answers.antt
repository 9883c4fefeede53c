use Rattle.gx_xml.proofs.SpelledLemmas.{no_bytes}
use Rattle.gx_xml.proofs.value.is_no_uri.Goals as goal

pub returns : goal.returns
returns c = cc (c.eq.ensures, no_bytes c.args.uri.now c.utf8.uri)
