use Rattle.gx_base.proofs.TextLemmas.{next_is_text, next_is_none, next_is_some}
use Rattle.gx_base.proofs.characters.next_character.Goals as goal

pub returns-clause-text : goal.returns-clause-text
returns-clause-text c = next_is_text c.args.rest.now c.next.result c.next.new.self c.requires c.next.ensures.steps

pub returns-clause-end : goal.returns-clause-end
returns-clause-end c = next_is_none c.args.rest.now c.next.result c.next.new.self c.next.ensures.steps

pub returns-clause-next : goal.returns-clause-next
returns-clause-next c = next_is_some c.args.rest.now c.next.result c.next.new.self c.requires c.next.ensures.steps
