use Rattle.std.proofs.Common.{◌≡◌, Option, None, Some, sym, subst, ◌∙◌}
use Rattle.std.specs.Prelude.{IfOk, IfErr}
use Rattle.gx_funcs.specs.declared.text_function.TextFunction.{TextFunction}
use Rattle.gx_funcs.specs.declared.value_function.ValueFunction.{ValueFunction}
use Rattle.gx_funcs.specs.Function.{text_function_of, value_function_of, item_function_of}
use Rattle.gx_build.specs.Parts.{parts_in}
use Rattle.gx_core.specs.Calling.{called_as}
use Rattle.gx_core.specs.Outcome.{Outcome, gives}
use Rattle.gx_model.specs.Item.{Items}
use Rattle.gx_machine.specs.Answering.{answer_items}
use Rattle.gx_machine.specs.Failing.{FailsSo}
use Rattle.gx_machine.proofs.ItemAnswers.{over_items_called}
use Rattle.gx_machine.proofs.calling.called_with_many.Goals as goal

pub returns-in-Some-default-default-clause-value : goal.returns-in-Some-default-default-clause-value
returns-in-Some-default-default-clause-value c = λ later x.
    let s = c.args.schemas.now in
    let forest = c.args.store.now in
    let function = c.args.function in
    let over_texts : text_function_of function ≡ Some c.in-Some-default-default.texts = sym c.text_function.ensures ∙ c.in-Some-default-default.is-0 in
    subst (λ (texts : Option TextFunction). IfOk c.called_with_texts.result (λ r. called_as texts (value_function_of function) (item_function_of function) s function (parts_in later c.args.operands.now) forest ≡ gives (answer_items later r) forest))
    (sym over_texts) (c.called_with_texts.ensures.value later x)

pub returns-in-None-Some-default-clause-failed : goal.returns-in-None-Some-default-clause-failed
returns-in-None-Some-default-clause-failed c = λ later x.
    let s = c.args.schemas.now in
    let forest = c.args.store.now in
    let function = c.args.function in
    let no_texts : text_function_of function ≡ None = sym c.text_function.ensures ∙ c.in-None-Some-default.is-0 in
    let over_values : value_function_of function ≡ Some c.in-None-Some-default.over_values = sym c.value_function.ensures ∙ c.in-None-Some-default.is-1 in
    subst (λ (texts : Option TextFunction). IfErr c.called_with_values.result (λ e. FailsSo e (called_as texts (value_function_of function) (item_function_of function) s function (parts_in later c.args.operands.now) forest))) (sym no_texts)
    (subst (λ (values : Option ValueFunction). IfErr c.called_with_values.result (λ e. FailsSo e (called_as None values (item_function_of function) s function (parts_in later c.args.operands.now) forest))) (sym over_values) (c.called_with_values.ensures.failed later x))

pub returns-in-None-None-Some-clause-value : goal.returns-in-None-None-Some-clause-value
returns-in-None-None-Some-clause-value c = λ later x.
    let forest = c.args.store.now in
    let arm = c.in-None-None-Some in
    let is = over_items_called c.args.schemas.now c.args.function arm.over_items (parts_in later c.args.operands.now) forest
    (sym c.text_function.ensures ∙ arm.is-0) (sym c.value_function.ensures ∙ arm.is-1) (sym c.item_function.ensures ∙ arm.is-2) in
    subst (λ (o : Outcome Items). IfOk c.called_with_items.result (λ r. o ≡ gives (answer_items later r) forest)) (sym is) (c.called_with_items.ensures.value later x)

pub returns-in-None-None-Some-clause-failed : goal.returns-in-None-None-Some-clause-failed
returns-in-None-None-Some-clause-failed c = λ later x.
    let arm = c.in-None-None-Some in
    let is = over_items_called c.args.schemas.now c.args.function arm.over_items (parts_in later c.args.operands.now) c.args.store.now
    (sym c.text_function.ensures ∙ arm.is-0) (sym c.value_function.ensures ∙ arm.is-1) (sym c.item_function.ensures ∙ arm.is-2) in
    subst (λ (o : Outcome Items). IfErr c.called_with_items.result (λ e. FailsSo e o)) (sym is) (c.called_with_items.ensures.failed later x)
