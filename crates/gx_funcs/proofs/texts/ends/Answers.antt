use Rattle.gx_funcs.proofs.TextLemmas.{text_ends}
use Rattle.gx_funcs.proofs.texts.ends.Goals as goal

pub returns : goal.returns
returns c = text_ends c.ends_with.result c.args.text.now c.args.searched.now c.as_str.result.now c.as_str-2.result.now c.as_str.ensures.characters c.as_str-2.ensures.characters c.as_str.ensures.bytes c.as_str-2.ensures.bytes c.ends_with.ensures.cases
