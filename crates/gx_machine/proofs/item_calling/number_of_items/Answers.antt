use Rattle.std.proofs.Common.{sym, ◌∙◌}
use Rattle.gx_store.specs.Items.{items_in}
use Rattle.gx_machine.proofs.ItemAnswers.{number_is, number_is_none}
use Rattle.gx_machine.proofs.item_calling.number_of_items.Goals as goal

pub returns-in-Some : goal.returns-in-Some
returns-in-Some c = λ later. c.number_of.ensures ∙ number_is (items_in later c.args.items.now) c.in-Some.value.now (sym (c.in-Some.ensures later))

pub returns-in-None : goal.returns-in-None
returns-in-None c = λ later. number_is_none (items_in later c.args.items.now) (sym (c.in-None.ensures later))
