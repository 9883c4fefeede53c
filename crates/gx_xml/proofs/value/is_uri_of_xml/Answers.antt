use Rattle.gx_xml.proofs.SpelledLemmas.{xml_uri_bytes}
use Rattle.gx_xml.proofs.value.is_uri_of_xml.Goals as goal

pub returns : goal.returns
returns c = cc (c.eq.ensures, xml_uri_bytes c.args.uri.now c.utf8.uri)
