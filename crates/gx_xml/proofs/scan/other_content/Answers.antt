use Rattle.gx_xml.specs.Marks.{choice_words}
use Rattle.gx_xml.proofs.scan.other_content.Goals as goal

pub returns : goal.returns
unfolding choice_words
returns c = c.or.ensures _ (c.or_word-found.ensures _ (c.or-found-4.ensures _ (c.or-found-3.ensures _ (c.or-found-2.ensures _ (c.or-found.ensures _ c.no_word-found.ensures)))))
