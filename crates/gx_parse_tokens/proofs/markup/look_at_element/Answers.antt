use Rattle.std.proofs.Common.{refl}
use Rattle.gx_parse_tokens.proofs.MarkupScans.{element_looked, no_element_looked}
use Rattle.gx_parse_tokens.proofs.markup.look_at_element.Goals as goal

pub returns-then-levels-gt1 : goal.returns-then-levels-gt1
returns-then-levels-gt1 c = element_looked c.args.levels c.args.text.now _ c.if-levels-gt1.true c.look_at_word-found.ensures

pub returns : goal.returns
returns c = no_element_looked c.args.levels c.args.text.now c.look_at_word-found.result _ c.if-levels-gt1.false c.look_at_word-found.ensures c.starts_element.ensures refl
