use Rattle.gx_xml.proofs.scan.number_sign.Goals as goal

pub returns : goal.returns
returns c = λ es h. c.or.ensures _ (c.or_word-found.ensures es h)
