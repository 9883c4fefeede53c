use Rattle.std.proofs.Common.{◌≡◌, Option, Some, sym, subst, ◌∙◌}
use Rattle.std.specs.Prelude.{IfOk, []}
use Rattle.gx_funcs.specs.declared.text_function.TextFunction.{TextFunction}
use Rattle.gx_funcs.specs.Function.{text_function_of, value_function_of, item_function_of}
use Rattle.gx_core.specs.Calling.{called_as}
use Rattle.gx_core.specs.Outcome.{Outcome, gives}
use Rattle.gx_model.specs.Item.{Items}
use Rattle.gx_machine.specs.Answering.{answer_items}
use Rattle.gx_machine.specs.Failing.{FailsSo}
use Rattle.gx_machine.proofs.ItemAnswers.{called_with_none, over_items_called}
use Rattle.gx_machine.proofs.calling.called_with_none.Goals as goal

pub returns-in-Some-default-default-clause-value : goal.returns-in-Some-default-default-clause-value
returns-in-Some-default-default-clause-value c = λ schemas forest later.
    let function = c.args.function in
    let over_texts : text_function_of function ≡ Some c.in-Some-default-default.texts = sym c.text_function.ensures ∙ c.in-Some-default-default.is-0 in
    subst (λ (texts : Option TextFunction). IfOk c.text_answer.result (λ r. called_as texts (value_function_of function) (item_function_of function) schemas function [] forest ≡ gives (answer_items later r) forest)) (sym over_texts) (c.text_answer.ensures.value forest later)

pub returns-in-None-None-Some-clause-failed : goal.returns-in-None-None-Some-clause-failed
returns-in-None-None-Some-clause-failed c = λ schemas forest.
    let arm = c.in-None-None-Some in
    let is = over_items_called schemas c.args.function arm.over_items [] forest
    (sym c.text_function.ensures ∙ arm.is-0) (sym c.value_function.ensures ∙ arm.is-1) (sym c.item_function.ensures ∙ arm.is-2) ∙ called_with_none schemas arm.over_items forest in
    subst (λ (o : Outcome Items). FailsSo c.failure_of_none.result o) (sym is) (c.failure_of_none.ensures forest)
