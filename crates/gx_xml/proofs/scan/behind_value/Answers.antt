use Rattle.gx_xml.specs.Marks.{choice_words}
use Rattle.gx_xml.proofs.scan.behind_value.Goals as goal

pub returns : goal.returns
unfolding choice_words
returns c = rw (← c.character.ensures) (c.or_if.ensures _ (c.or_if-found.ensures _ c.no_word-found.ensures))
