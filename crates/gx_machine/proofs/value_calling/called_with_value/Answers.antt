use Rattle.std.proofs.Common.{◌≡◌, ◌++◌, ◌∷◌, [], List, length, ap, sym, subst, ◌∙◌}
use Rattle.std.specs.Global.{Global}
use Rattle.std.specs.Prelude.{Vec, IfOk, IfErr}
use Rattle.std.proofs.lemmas.Result.{err_from_is_err_and}
use Rattle.gx_facets.specs.declared.Atomic.{Atomic}
use Rattle.gx_funcs.specs.declared.function.Conversion.{Conversion}
use Rattle.gx_funcs.specs.declared.function.Parameter.{Parameter}
use Rattle.gx_funcs.specs.Function.{conversion_of, value_parameters_of}
use Rattle.gx_funcs.specs.Values.{lists_of, value_answer}
use Rattle.gx_model.specs.Item.{Items}
use Rattle.gx_core.specs.Arguments.{argument_values}
use Rattle.gx_core.specs.Calling.{value_called}
use Rattle.gx_core.specs.Outcome.{Outcome, gives, after}
use Rattle.gx_store.specs.Items.{items_in}
use Rattle.gx_machine.specs.Answering.{answer_items, values_found}
use Rattle.gx_machine.specs.Failing.{FailsSo}
use Rattle.gx_machine.proofs.ValueArguments.{only_argument, only_argument_fails}
use Rattle.gx_machine.proofs.value_calling.called_with_value.Goals as goal

pub returns-in_err-values-clause-failed : goal.returns-in_err-values-clause-failed
returns-in_err-values-clause-failed c = λ later x.
    let s = c.args.schemas.now in
    let forest = c.args.store.now in
    let xs : Items = items_in later c.args.argument.now in
    let p : Parameter = c.in-Some.parameter in
    let error = c.in_err-values.field-0.0 in
    let q = err_from_is_err_and c.from_residual.result c.from_residual.ensures.1 in
    rw (q.1, q.2)
    (only_argument_fails s c.args.function p xs forest error (sym c.parameter.ensures ∙ c.in-Some.is)
    (λ then. subst (λ (conversion : Conversion). FailsSo error (after (argument_values conversion s xs forest) then)) c.conversion.ensures (c.in_err-values.ensures.failed later then x)))

pub returns-clause-value : goal.returns-clause-value
returns-clause-value c = λ later x.
    let s = c.args.schemas.now in
    let forest = c.args.store.now in
    let function = c.args.function in
    let xs : Items = items_in later c.args.argument.now in
    let p : Parameter = c.in-Some.parameter in
    let values = c.in_ok-values.values in
    let one : length (value_parameters_of function) ≡ 1 = sym c.arity.ensures ∙ c.if-arity-ne1.false in
    let found : argument_values (conversion_of p.takes) s xs forest ≡ gives values.items forest =
    ap (λ (conversion : Conversion). argument_values conversion s xs forest) (sym c.conversion.ensures) ∙ c.in_ok-values.ensures.value later x in
    let items : c.as_slice.result.now ≡ values ∷ [] = c.as_slice.ensures.value ∙ c.in_ok-push.ensures.items ∙ ap (λ (l : List (Vec Atomic Global)). l ++ values ∷ []) c.in_ok-arguments.ensures.items in
    let is : value_called s function (xs ∷ []) forest ≡ values_found (value_answer function (lists_of c.as_slice.result.now)) forest =
    only_argument s function p xs values.items forest (sym c.parameter.ensures ∙ c.in-Some.is) one found ∙ ap (λ (l : List (Vec Atomic Global)). values_found (value_answer function (lists_of l)) forest) (sym items) in
    subst (λ (o : Outcome Items). IfOk c.answer_of.result (λ r. o ≡ gives (answer_items later r) forest)) (sym is) (c.answer_of.ensures.value forest later)

pub returns-clause-failed : goal.returns-clause-failed
returns-clause-failed c = λ later x.
    let s = c.args.schemas.now in
    let forest = c.args.store.now in
    let function = c.args.function in
    let xs : Items = items_in later c.args.argument.now in
    let p : Parameter = c.in-Some.parameter in
    let values = c.in_ok-values.values in
    let one : length (value_parameters_of function) ≡ 1 = sym c.arity.ensures ∙ c.if-arity-ne1.false in
    let found : argument_values (conversion_of p.takes) s xs forest ≡ gives values.items forest =
    ap (λ (conversion : Conversion). argument_values conversion s xs forest) (sym c.conversion.ensures) ∙ c.in_ok-values.ensures.value later x in
    let items : c.as_slice.result.now ≡ values ∷ [] = c.as_slice.ensures.value ∙ c.in_ok-push.ensures.items ∙ ap (λ (l : List (Vec Atomic Global)). l ++ values ∷ []) c.in_ok-arguments.ensures.items in
    let is : value_called s function (xs ∷ []) forest ≡ values_found (value_answer function (lists_of c.as_slice.result.now)) forest =
    only_argument s function p xs values.items forest (sym c.parameter.ensures ∙ c.in-Some.is) one found ∙ ap (λ (l : List (Vec Atomic Global)). values_found (value_answer function (lists_of l)) forest) (sym items) in
    subst (λ (o : Outcome Items). IfErr c.answer_of.result (λ e. FailsSo e o)) (sym is) (c.answer_of.ensures.failed forest)
