use Rattle.gx_xml.specs.Marks.{choice_words}
use Rattle.gx_xml.proofs.scan.declaration_part.Goals as goal

pub returns-then-not-spaced : goal.returns-then-not-spaced
unfolding choice_words
returns-then-not-spaced c = rw c.if-not-spaced.true (c.or.ensures _ c.no_word-found.ensures)

pub returns-then-not-encoding : goal.returns-then-not-encoding
unfolding choice_words
returns-then-not-encoding c = rw (c.if-not-spaced.false, c.if-not-encoding.true) (c.or-then-not-encoding.ensures _ (c.or-found.ensures _ c.no_word-found.ensures))

pub returns : goal.returns
unfolding choice_words
returns c = rw (c.if-not-spaced.false, c.if-not-encoding.false) (c.or-2.ensures _ (c.or-found-3.ensures _ (c.or-found-2.ensures _ c.no_word-found.ensures)))
