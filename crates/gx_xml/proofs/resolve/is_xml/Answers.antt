use Rattle.gx_xml.proofs.CharacterLemmas.{is_xml_text}
use Rattle.gx_xml.proofs.resolve.is_xml.Goals as goal

pub returns : goal.returns
returns c = (cc (c.eq.ensures, c.as_str.ensures.bytes, is_xml_text c.args.prefix.now c.as_str.ensures.characters))
