use Rattle.std.proofs.Common.{sym, ◌∙◌}
use Rattle.gx_store.specs.Items.{items_in}
use Rattle.gx_machine.proofs.Operands.{condition_is, condition_is_none}
use Rattle.gx_machine.proofs.operand.condition_of.Goals as goal

pub returns-in-Some : goal.returns-in-Some
returns-in-Some c = λ later. c.truth_of.ensures ∙ condition_is (items_in later c.args.items.now) c.in-Some.value.now (sym (c.in-Some.ensures later))

pub returns-in-None : goal.returns-in-None
returns-in-None c = λ later. condition_is_none (items_in later c.args.items.now) (sym (c.in-None.ensures later))
