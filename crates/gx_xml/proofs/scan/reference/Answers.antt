use Rattle.gx_xml.specs.Marks.{choice_words}
use Rattle.gx_xml.proofs.scan.reference.Goals as goal

pub returns-then-named : goal.returns-then-named
unfolding choice_words
returns-then-named c = rw c.if-named.true (c.number_sign.ensures _ c.entities.ensures)

pub returns : goal.returns
unfolding choice_words
returns c = rw c.if-named.false (c.number_sign-2.ensures _ c.no_word.ensures)
