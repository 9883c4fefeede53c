use Rattle.gx_funcs.proofs.TextLemmas.{text_begins}
use Rattle.gx_funcs.proofs.texts.begins.Goals as goal

pub returns : goal.returns
returns c = text_begins c.starts_with.result c.args.text.now c.args.searched.now c.as_str.result.now c.as_str-2.result.now c.as_str.ensures.bytes c.as_str-2.ensures.bytes c.starts_with.ensures.cases
