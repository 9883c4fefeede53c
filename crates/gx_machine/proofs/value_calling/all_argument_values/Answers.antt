use Rattle.std.proofs.Common.{◌≡◌, ◌<◌, ◌++◌, ◌+◌, ◌∷◌, [], List, Some, drop, length, ap, sym, subst, ◌∙◌, arith, rules}
use Rattle.std.specs.Global.{Global}
use Rattle.std.specs.Prelude.{Vec, slice_get}
use Rattle.std.proofs.lemmas.List.{map-append, nil_from_length}
use Rattle.std.proofs.lemmas.Result.{err_from_is_err_and}
use Rattle.gx_facets.specs.declared.Atomic.{Atomic}
use Rattle.gx_funcs.specs.declared.function.Conversion.{Conversion}
use Rattle.gx_funcs.specs.declared.function.Parameter.{Parameter}
use Rattle.gx_funcs.specs.Function.{conversion_of, value_parameters_of}
use Rattle.gx_funcs.specs.Values.{lists_of}
use Rattle.gx_model.specs.Item.{Items}
use Rattle.gx_core.specs.Arguments.{argument_values, all_argument_values}
use Rattle.gx_core.specs.Outcome.{gives, after}
use Rattle.gx_build.specs.Parts.{parts_in}
use Rattle.gx_store.specs.declared.item.Item.{Item}
use Rattle.gx_store.specs.Items.{items_in}
use Rattle.gx_machine.specs.Failing.{FailsSo}
use Rattle.gx_machine.proofs.Resuming.{fails_also}
use Rattle.gx_machine.proofs.ValueArguments.{parameter_in_front, parameter_is_within, one_argument, argument_fails, so_far, no_argument}
use Rattle.gx_machine.proofs.value_calling.all_argument_values.Goals as goal

pub returns-in_err-argument_values-clause-failed : goal.returns-in_err-argument_values-clause-failed
returns-in_err-argument_values-clause-failed c = λ later next x.
    let s = c.args.schemas.now in
    let store = c.args.store.now in
    let ps : List Parameter = value_parameters_of c.args.function in
    let number = c.loop-operand.number in
    let parameter = c.in-Some-parameter.parameter in
    let front : drop number ps ≡ parameter ∷ drop (number + 1) ps = parameter_in_front ps number parameter (sym c.parameter.ensures ∙ c.in-Some-parameter.is) in
    let left : c.loop-operand.left.now ≡ c.in-Some.operand.now ∷ c.in-Some.others.now = search rules in
    let done : List (List Atomic) = lists_of c.loop-operand.found.items in
    let others : List Items = parts_in later c.in-Some.others.now in
    let p = err_from_is_err_and c.from_residual-in_err-argument_values.result c.from_residual-in_err-argument_values.ensures.1 in
    rw (p.1, p.2)
    (fails_also _ _ _
    (so_far (all_argument_values s (drop number ps) (parts_in later c.loop-operand.left.now) store) (all_argument_values s ps (parts_in later c.args.operands.now) store) done next (c.loop-operand.invariant.so_far later x)
    ∙ ap (λ (operands : List (Vec Item Global)). after (all_argument_values s (drop number ps) (parts_in later operands) store) (λ found now. next (done ++ found) now)) left
    ∙ ap (λ (qs : List Parameter). after (all_argument_values s qs (items_in later c.in-Some.operand.now.items ∷ others) store) (λ found now. next (done ++ found) now)) front)
    (argument_fails s parameter (drop (number + 1) ps) (items_in later c.in-Some.operand.now.items) others store _ (λ found now. next (done ++ found) now)
    (λ then. subst (λ (conversion : Conversion). FailsSo c.in_err-argument_values.field-0.0 (after (argument_values conversion s (items_in later c.in-Some.operand.now.items) store) then)) c.conversion-conversion.ensures
    (subst (λ (items : List Item). FailsSo c.in_err-argument_values.field-0.0 (after (argument_values c.conversion-conversion.result s (items_in later items) store) then)) c.as_slice.ensures.value (c.in_err-argument_values.ensures.failed later then x)))))

pub loop-operand-preserved : goal.loop-operand-preserved
loop-operand-preserved c =
    let s = c.args.schemas.now in
    let store = c.args.store.now in
    let ps : List Parameter = value_parameters_of c.args.function in
    let number = c.loop-operand.number in
    let parameter = c.in-Some-parameter.parameter in
    let there : slice_get ps number ≡ Some parameter = sym c.parameter.ensures ∙ c.in-Some-parameter.is in
    let front : drop number ps ≡ parameter ∷ drop (number + 1) ps = parameter_in_front ps number parameter there in
    let within : number < length ps = parameter_is_within ps number parameter there in
    let left : c.loop-operand.left.now ≡ c.in-Some.operand.now ∷ c.in-Some.others.now = search rules in
    let done : List (List Atomic) = lists_of c.loop-operand.found.items in
    let values = c.in_ok-argument_values.field-0 in
    record {
      so_far = λ later x.
          let xs : Items = items_in later c.in-Some.operand.now.items in
          let others : List Items = parts_in later c.in-Some.others.now in
          let found : argument_values (conversion_of parameter.takes) s xs store ≡ gives values.items store =
          ap (λ (conversion : Conversion). argument_values conversion s xs store) (sym c.conversion-conversion.ensures)
          ∙ ap (λ (items : List Item). argument_values c.conversion-conversion.result s (items_in later items) store) (sym c.as_slice.ensures.value)
          ∙ c.in_ok-argument_values.ensures.value later x in
          ap (λ (l : List (Vec Atomic Global)). after (all_argument_values s (drop (number + 1) ps) others store) (λ more now. gives (lists_of l ++ more) now)) c.in_ok-push.ensures.items
          ∙ ap (λ (l : List (List Atomic)). after (all_argument_values s (drop (number + 1) ps) others store) (λ more now. gives (l ++ more) now)) (map-append (λ (v : Vec Atomic Global). v.items) c.loop-operand.found.items (values ∷ []))
          ∙ one_argument s parameter (drop (number + 1) ps) xs values.items others done store found
          ∙ ap (λ (qs : List Parameter). after (all_argument_values s qs (xs ∷ others) store) (λ more now. gives (done ++ more) now)) (sym front)
          ∙ ap (λ (operands : List (Vec Item Global)). after (all_argument_values s (drop number ps) (parts_in later operands) store) (λ more now. gives (done ++ more) now)) (sym left)
          ∙ c.loop-operand.invariant.so_far later x;
      within = omega (arith, within);
    }

pub returns-else-number-arity-clause-failed : goal.returns-else-number-arity-clause-failed
returns-else-number-arity-clause-failed c = λ later next x.
    let s = c.args.schemas.now in
    let store = c.args.store.now in
    let ps : List Parameter = value_parameters_of c.args.function in
    let number = c.loop-operand.number in
    let done : List (List Atomic) = lists_of c.loop-operand.found.items in
    let none : c.loop-operand.left.now ≡ [] = nil_from_length c.loop-operand.left.now c.in_default.ensures.cases in
    so_far (all_argument_values s (drop number ps) (parts_in later c.loop-operand.left.now) store) (all_argument_values s ps (parts_in later c.args.operands.now) store) done next (c.loop-operand.invariant.so_far later x)
    ∙ no_argument s ps number (parts_in later c.loop-operand.left.now) store (λ found now. next (done ++ found) now) c.loop-operand.invariant.within (λ e. c.if-number-arity.false (e ∙ sym c.arity.ensures)) (ap (parts_in later) none)
