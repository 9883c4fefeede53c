use Rattle.std.proofs.Common.{◌++◌, ◌∷◌, [], List, ap, sym, ◌∙◌}
use Rattle.std.proofs.lemmas.List.{map-append, nil_from_length}
use Rattle.std.proofs.lemmas.Result.{err_from_is_err_and}
use Rattle.gx_types.specs.SequenceType.{SequenceType}
use Rattle.gx_model.specs.Item.{Items}
use Rattle.gx_core.specs.Converting.{arguments_converted}
use Rattle.gx_core.specs.Outcome.{gives, after}
use Rattle.gx_machine.specs.declared.bound.Bound.{Bound}
use Rattle.gx_machine.specs.BoundItems.{bound_items, bounds_in}
use Rattle.gx_machine.proofs.Conversions.{one_argument, argument_fails, so_far, no_parameter, no_argument, no_more}
use Rattle.gx_machine.proofs.Resuming.{fails_also}
use Rattle.gx_machine.proofs.converting.converted_arguments.Goals as goal

pub loop-argument-preserved : goal.loop-argument-preserved
loop-argument-preserved c = λ later x.
    let s = c.args.schemas.now in
    let store = c.args.store.now in
    let expected = c.in-Some-split_first.expected.now in
    let others = c.in-Some-split_first.others.now in
    let left : List Items = bounds_in later c.pop.new.self in
    let done : List Items = bounds_in later c.loop-argument.found.items in
    let y : Bound = c.in_ok-converted_argument.field-0 in
    ap (λ (found : List Bound). after (arguments_converted s others left store) (λ values now. gives (bounds_in later found ++ values) now)) c.in_ok-push.ensures.items
    ∙ ap (λ (found : List Items). after (arguments_converted s others left store) (λ values now. gives (found ++ values) now)) (map-append (bound_items later) c.loop-argument.found.items (y ∷ []))
    ∙ one_argument s expected others (bound_items later c.in-Some.argument) (bound_items later y) left done store (c.in_ok-converted_argument.ensures.value later x)
    ∙ ap (λ (arguments : List Bound). after (arguments_converted s (expected ∷ others) (bounds_in later arguments) store) (λ values now. gives (done ++ values) now)) (sym c.in-Some.ensures)
    ∙ ap (λ (rest : List SequenceType). after (arguments_converted s rest (bounds_in later c.loop-argument.arguments) store) (λ values now. gives (done ++ values) now)) (sym c.in-Some-split_first.ensures.cases.0)
    ∙ c.loop-argument.invariant later x

pub returns-in_default-split_first-clause-failed : goal.returns-in_default-split_first-clause-failed
returns-in_default-split_first-clause-failed c = λ later next x.
    let s = c.args.schemas.now in
    let store = c.args.store.now in
    let done : List Items = bounds_in later c.loop-argument.found.items in
    so_far (arguments_converted s c.loop-argument.rest.now (bounds_in later c.loop-argument.arguments) store) (arguments_converted s c.args.parameters.now (bounds_in later c.args.arguments) store) done next
    (c.loop-argument.invariant later x)
    ∙ no_parameter s c.loop-argument.rest.now (bounds_in later c.loop-argument.arguments) (bound_items later c.in-Some.argument) (bounds_in later c.pop.new.self) store (λ values now. next (done ++ values) now)
    (nil_from_length c.loop-argument.rest.now c.in_default-split_first.ensures.cases) (ap (bounds_in later) c.in-Some.ensures)

pub returns-in_err-converted_argument-clause-failed : goal.returns-in_err-converted_argument-clause-failed
returns-in_err-converted_argument-clause-failed c = λ later next x.
    let s = c.args.schemas.now in
    let store = c.args.store.now in
    let expected = c.in-Some-split_first.expected.now in
    let others = c.in-Some-split_first.others.now in
    let left : List Items = bounds_in later c.pop.new.self in
    let done : List Items = bounds_in later c.loop-argument.found.items in
    let p = err_from_is_err_and c.from_residual-in_err-converted_argument.result c.from_residual-in_err-converted_argument.ensures.1 in
    rw (p.1, p.2)
    (fails_also _ _ _
    (so_far (arguments_converted s c.loop-argument.rest.now (bounds_in later c.loop-argument.arguments) store) (arguments_converted s c.args.parameters.now (bounds_in later c.args.arguments) store) done next
    (c.loop-argument.invariant later x)
    ∙ ap (λ (arguments : List Bound). after (arguments_converted s c.loop-argument.rest.now (bounds_in later arguments) store) (λ values now. next (done ++ values) now)) c.in-Some.ensures
    ∙ ap (λ (rest : List SequenceType). after (arguments_converted s rest (bound_items later c.in-Some.argument ∷ left) store) (λ values now. next (done ++ values) now)) c.in-Some-split_first.ensures.cases.0)
    (argument_fails s expected others (bound_items later c.in-Some.argument) left store _ (λ values now. next (done ++ values) now) (c.in_err-converted_argument.ensures.failed later x)))

pub returns-then-is_empty-clause-value : goal.returns-then-is_empty-clause-value
returns-then-is_empty-clause-value c = λ later x.
    sym (c.loop-argument.invariant later x)
    ∙ no_more c.args.schemas.now c.loop-argument.rest.now (bounds_in later c.loop-argument.arguments) (bounds_in later c.loop-argument.found.items) c.args.store.now
    c.is_empty.result c.is_empty.ensures c.if-is_empty.true (ap (bounds_in later) c.in_default.ensures.0)

pub returns-else-is_empty-clause-failed : goal.returns-else-is_empty-clause-failed
returns-else-is_empty-clause-failed c = λ later next x.
    let s = c.args.schemas.now in
    let store = c.args.store.now in
    let done : List Items = bounds_in later c.loop-argument.found.items in
    so_far (arguments_converted s c.loop-argument.rest.now (bounds_in later c.loop-argument.arguments) store) (arguments_converted s c.args.parameters.now (bounds_in later c.args.arguments) store) done next
    (c.loop-argument.invariant later x)
    ∙ no_argument s c.loop-argument.rest.now (bounds_in later c.loop-argument.arguments) store (λ values now. next (done ++ values) now)
    c.is_empty.result c.is_empty.ensures c.if-is_empty.false (ap (bounds_in later) c.in_default.ensures.0)
