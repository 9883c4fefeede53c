use Rattle.gx_xml.specs.Marks.{choice_words}
use Rattle.gx_xml.proofs.scan.quote.Goals as goal

pub returns : goal.returns
unfolding choice_words
returns c = c.or.ensures _ (c.or-found.ensures _ c.no_word-found.ensures)
