use Rattle.gx_funcs.proofs.TextLemmas.{text_occurs}
use Rattle.gx_funcs.proofs.texts.occurs.Goals as goal

pub returns : goal.returns
returns c = text_occurs c.contains.result c.args.text.now c.args.searched.now c.as_str.result.now c.as_str-2.result.now c.as_str.ensures.characters c.as_str-2.ensures.characters c.as_str.ensures.bytes c.as_str-2.ensures.bytes c.contains.ensures.cases
