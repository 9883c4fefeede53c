use Rattle.gx_xml.specs.Marks.{named_entities}
use Rattle.gx_xml.proofs.scan.entities.Goals as goal

pub returns : goal.returns
unfolding named_entities
returns c = c.or.ensures _ (c.or-found-4.ensures _ (c.or-found-3.ensures _ (c.or-found-2.ensures _ (c.or-found.ensures _ c.no_word-found.ensures))))
