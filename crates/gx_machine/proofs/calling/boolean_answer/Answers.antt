use Rattle.std.proofs.Common.{sym, ◌∙◌}
use Rattle.gx_store.specs.Items.{items_in}
use Rattle.gx_machine.proofs.Operands.{boolean_called, no_boolean}
use Rattle.gx_machine.proofs.calling.boolean_answer.Goals as goal

pub returns-in_ok-own-in-Some-clause-value : goal.returns-in_ok-own-in-Some-clause-value
returns-in_ok-own-in-Some-clause-value c = λ schemas forest later.
    boolean_called schemas forest (items_in later c.args.argument.now) c.in-Some.truth c.in_ok-own-in-Some.own (sym (c.effective_boolean.ensures forest later) ∙ c.in-Some.is) (c.in_ok-own-in-Some.ensures forest later)

pub returns-in-None-clause-failed : goal.returns-in-None-clause-failed
returns-in-None-clause-failed c = λ schemas forest later. no_boolean schemas forest (items_in later c.args.argument.now) (sym (c.effective_boolean.ensures forest later) ∙ c.in-None.is)
