use Rattle.gx_xml.proofs.SpelledLemmas.{xmlns_uri_bytes}
use Rattle.gx_xml.proofs.value.is_uri_of_xmlns.Goals as goal

pub returns : goal.returns
returns c = cc (c.eq.ensures, xmlns_uri_bytes c.args.uri.now c.utf8.uri)
