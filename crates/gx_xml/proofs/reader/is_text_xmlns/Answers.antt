use Rattle.gx_xml.proofs.SpelledLemmas.{xmlns_bytes}
use Rattle.gx_xml.proofs.reader.is_text_xmlns.Goals as goal

pub returns : goal.returns
returns c = cc (c.eq.ensures, xmlns_bytes c.args.text.now c.utf8.text)
