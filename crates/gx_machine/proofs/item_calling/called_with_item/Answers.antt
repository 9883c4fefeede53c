use Rattle.std.proofs.Common.{sym, subst}
use Rattle.std.specs.Prelude.{IfOk, IfErr}
use Rattle.gx_model.specs.Item.{Items}
use Rattle.gx_core.specs.Outcome.{Outcome, gives}
use Rattle.std.proofs.Common.{◌≡◌}
use Rattle.gx_store.specs.Items.{items_in}
use Rattle.gx_machine.specs.Answering.{answer_items}
use Rattle.gx_machine.specs.Failing.{FailsSo}
use Rattle.gx_machine.proofs.ItemAnswers.{called_with_one}
use Rattle.gx_machine.proofs.item_calling.called_with_item.Goals as goal

pub returns-clause-value : goal.returns-clause-value
returns-clause-value c = λ schemas later x.
    subst (λ (o : Outcome Items). IfOk c.of_one.result (λ r. o ≡ gives (answer_items later r) c.args.store.now))
    (sym (called_with_one schemas c.args.function (items_in later c.args.argument.now) c.args.store.now)) (c.of_one.ensures.value later x)

pub returns-clause-failed : goal.returns-clause-failed
returns-clause-failed c = λ schemas later x.
    subst (λ (o : Outcome Items). IfErr c.of_one.result (λ e. FailsSo e o))
    (sym (called_with_one schemas c.args.function (items_in later c.args.argument.now) c.args.store.now)) (c.of_one.ensures.failed later x)
