use Rattle.std.proofs.Common.{◌≡◌, List, ap, sym, subst, ◌∙◌}
use Rattle.std.specs.Prelude.{IfOk, IfErr}
use Rattle.gx_model.specs.Item.{Items}
use Rattle.gx_build.specs.Parts.{parts_in}
use Rattle.gx_core.specs.ItemCalling.{item_called, item_answer}
use Rattle.gx_core.specs.Outcome.{Outcome, gives, after}
use Rattle.gx_machine.specs.declared.item_calling.Argument.{Argument}
use Rattle.gx_machine.specs.Answering.{answer_items}
use Rattle.gx_machine.specs.Failing.{FailsSo}
use Rattle.gx_machine.specs.ItemAnswers.{items_of_arguments}
use Rattle.gx_machine.proofs.item_calling.called_with_items.Goals as goal

pub returns-clause-value : goal.returns-clause-value
returns-clause-value c = λ later x.
    let forest = c.args.store.now in
    let function = c.args.function in
    let is : item_called c.args.schemas.now function (parts_in later c.args.operands.now) forest ≡ item_answer function (items_of_arguments later c.as_slice.result.now) forest =
    ap (λ (o : Outcome (List Items)). after o (λ seen left. item_answer function seen left)) (c.in_ok-arguments.ensures.value later x)
    ∙ ap (λ (l : List Argument). item_answer function (items_of_arguments later l) forest) (sym c.as_slice.ensures.value) in
    subst (λ (o : Outcome Items). IfOk c.answer_of.result (λ r. o ≡ gives (answer_items later r) forest)) (sym is) (c.answer_of.ensures.value later x)

pub returns-clause-failed : goal.returns-clause-failed
returns-clause-failed c = λ later x.
    let forest = c.args.store.now in
    let function = c.args.function in
    let is : item_called c.args.schemas.now function (parts_in later c.args.operands.now) forest ≡ item_answer function (items_of_arguments later c.as_slice.result.now) forest =
    ap (λ (o : Outcome (List Items)). after o (λ seen left. item_answer function seen left)) (c.in_ok-arguments.ensures.value later x)
    ∙ ap (λ (l : List Argument). item_answer function (items_of_arguments later l) forest) (sym c.as_slice.ensures.value) in
    subst (λ (o : Outcome Items). IfErr c.answer_of.result (λ e. FailsSo e o)) (sym is) (c.answer_of.ensures.failed later x)
