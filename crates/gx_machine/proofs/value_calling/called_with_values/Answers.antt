use Rattle.std.proofs.Common.{◌≡◌, List, ap, sym, subst, ◌∙◌}
use Rattle.std.specs.Global.{Global}
use Rattle.std.specs.Prelude.{Vec, IfOk, IfErr}
use Rattle.gx_facets.specs.declared.Atomic.{Atomic}
use Rattle.gx_funcs.specs.Values.{lists_of, value_answer}
use Rattle.gx_model.specs.Item.{Items}
use Rattle.gx_build.specs.Parts.{parts_in}
use Rattle.gx_core.specs.Calling.{value_called}
use Rattle.gx_core.specs.Outcome.{Outcome, gives, after}
use Rattle.gx_machine.specs.Answering.{answer_items, values_found}
use Rattle.gx_machine.specs.Failing.{FailsSo}
use Rattle.gx_machine.proofs.value_calling.called_with_values.Goals as goal

pub returns-clause-value : goal.returns-clause-value
returns-clause-value c = λ later x.
    let forest = c.args.store.now in
    let function = c.args.function in
    let is : value_called c.args.schemas.now function (parts_in later c.args.operands.now) forest ≡ values_found (value_answer function (lists_of c.as_slice.result.now)) forest =
    ap (λ (o : Outcome (List (List Atomic))). after o (λ found left. values_found (value_answer function found) left)) (c.in_ok-arguments.ensures.value later x)
    ∙ ap (λ (l : List (Vec Atomic Global)). values_found (value_answer function (lists_of l)) forest) (sym c.as_slice.ensures.value) in
    subst (λ (o : Outcome Items). IfOk c.answer_of.result (λ r. o ≡ gives (answer_items later r) forest)) (sym is) (c.answer_of.ensures.value forest later)

pub returns-clause-failed : goal.returns-clause-failed
returns-clause-failed c = λ later x.
    let forest = c.args.store.now in
    let function = c.args.function in
    let is : value_called c.args.schemas.now function (parts_in later c.args.operands.now) forest ≡ values_found (value_answer function (lists_of c.as_slice.result.now)) forest =
    ap (λ (o : Outcome (List (List Atomic))). after o (λ found left. values_found (value_answer function found) left)) (c.in_ok-arguments.ensures.value later x)
    ∙ ap (λ (l : List (Vec Atomic Global)). values_found (value_answer function (lists_of l)) forest) (sym c.as_slice.ensures.value) in
    subst (λ (o : Outcome Items). IfErr c.answer_of.result (λ e. FailsSo e o)) (sym is) (c.answer_of.ensures.failed forest)
