use Rattle.gx_serial.proofs.BindingLemmas.{is_xml}
use Rattle.gx_serial.proofs.tag.is_xml.Goals as goal

pub returns : goal.returns
returns c = (cc (c.eq.ensures, c.as_str.ensures.bytes, is_xml c.args.prefix.now c.as_str.ensures.characters))
