use Rattle.gx_xml.proofs.SpelledLemmas.{xml_bytes}
use Rattle.gx_xml.proofs.value.is_text_xml.Goals as goal

pub returns : goal.returns
returns c = cc (c.eq.ensures, xml_bytes c.args.text.now c.utf8.text)
