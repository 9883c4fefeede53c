use Rattle.std.proofs.Common.{◌≡◌, List, Some, ap, sym, ◌∙◌, subst}
use Rattle.std.specs.Prelude.{IfOk, IfErr}
use Rattle.gx_model.specs.Item.{Items}
use Rattle.gx_core.specs.Converting.{converted, converted_to}
use Rattle.gx_core.specs.Outcome.{Outcome, gives}
use Rattle.gx_store.specs.declared.item.Item.{Item}
use Rattle.gx_store.specs.Items.{items_in}
use Rattle.gx_machine.specs.Failing.{FailsSo}
use Rattle.gx_machine.proofs.Conversions.{kind_expected}
use Rattle.gx_machine.proofs.converting.converted_value.Goals as goal

pub returns-in_default-clause-value : goal.returns-in_default-clause-value
returns-in_default-clause-value c = λ later x.
    subst (λ (xs : List Item). converted c.args.schemas.now c.args.expected.now (items_in later xs) c.args.store.now ≡ gives (items_in later xs) c.args.store.now) c.as_slice.ensures.value
    (c.conversion.ensures.none c.args.schemas.now c.args.store.now later c.in_default.is)

pub returns-clause-value : goal.returns-clause-value
returns-clause-value c = λ later x.
    let s = c.args.schemas.now in
    let store = c.args.store.now in
    let values : Items = items_in later c.args.value.items in
    let same : converted s c.args.expected.now values store ≡ converted_to (Some c.in-Some.kind.now) s (items_in later c.as_slice-2.result.now) store =
    kind_expected s c.args.expected.now c.in-Some.kind.now values store c.in-Some.ensures.some
    ∙ ap (λ (xs : List Item). converted_to (Some c.in-Some.kind.now) s (items_in later xs) store) (sym c.as_slice-2.ensures.value) in
    subst (λ (o : Outcome Items). IfOk c.converted_items.result (λ found. o ≡ gives (items_in later found.items) store)) (sym same) (c.converted_items.ensures.value later x)

pub returns-clause-failed : goal.returns-clause-failed
returns-clause-failed c = λ later x.
    let s = c.args.schemas.now in
    let store = c.args.store.now in
    let values : Items = items_in later c.args.value.items in
    let same : converted s c.args.expected.now values store ≡ converted_to (Some c.in-Some.kind.now) s (items_in later c.as_slice-2.result.now) store =
    kind_expected s c.args.expected.now c.in-Some.kind.now values store c.in-Some.ensures.some
    ∙ ap (λ (xs : List Item). converted_to (Some c.in-Some.kind.now) s (items_in later xs) store) (sym c.as_slice-2.ensures.value) in
    subst (λ (o : Outcome Items). IfErr c.converted_items.result (λ e. FailsSo e o)) (sym same) (c.converted_items.ensures.failed later x)
