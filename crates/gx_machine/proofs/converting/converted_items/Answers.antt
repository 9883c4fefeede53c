use Rattle.std.proofs.Common.{◌≡◌, List, Option, Some, ap, sym, ◌∙◌, subst}
use Rattle.std.specs.Prelude.{IfOk, IfErr}
use Rattle.std.proofs.lemmas.Result.{err_from_is_err_and}
use Rattle.gx_model.specs.Item.{Items}
use Rattle.gx_model.specs.Atomization.{atomized}
use Rattle.gx_core.specs.Converting.{items_converted}
use Rattle.gx_core.specs.Outcome.{gives, given}
use Rattle.gx_store.specs.declared.item.Item.{Item}
use Rattle.gx_store.specs.Items.{items_in}
use Rattle.gx_machine.specs.Failing.{FailsSo}
use Rattle.gx_machine.proofs.Conversions.{typed_fails}
use Rattle.gx_machine.proofs.converting.converted_items.Goals as goal

pub returns-in_err-typed-clause-failed : goal.returns-in_err-typed-clause-failed
returns-in_err-typed-clause-failed c = λ later x.
    let s = c.args.schemas.now in
    let forest = c.args.store.now in
    let p = err_from_is_err_and c.from_residual.result c.from_residual.ensures.1 in
    rw (p.1, p.2)
    (typed_fails (atomized s forest (items_in later c.args.items.now)) forest (λ ys. items_converted s c.args.kind.now ys forest) _ (c.in_err-typed.ensures.failed later x))

pub returns-clause-value : goal.returns-clause-value
returns-clause-value c = λ later x.
    let s = c.args.schemas.now in
    let forest = c.args.store.now in
    let typed : atomized s forest (items_in later c.args.items.now) ≡ Some (items_in later c.as_slice.result.now) =
    c.in_ok-typed.ensures.value later x ∙ ap (λ (xs : List Item). Some (items_in later xs)) (sym c.as_slice.ensures.value) in
    subst (λ (o : Option Items). IfOk c.untyped_cast.result (λ found. given o (λ ys. items_converted s c.args.kind.now ys forest) ≡ gives (items_in later found.items) forest)) (sym typed)
    (c.untyped_cast.ensures.value forest later)

pub returns-clause-failed : goal.returns-clause-failed
returns-clause-failed c = λ later x.
    let s = c.args.schemas.now in
    let forest = c.args.store.now in
    let typed : atomized s forest (items_in later c.args.items.now) ≡ Some (items_in later c.as_slice.result.now) =
    c.in_ok-typed.ensures.value later x ∙ ap (λ (xs : List Item). Some (items_in later xs)) (sym c.as_slice.ensures.value) in
    subst (λ (o : Option Items). IfErr c.untyped_cast.result (λ e. FailsSo e (given o (λ ys. items_converted s c.args.kind.now ys forest)))) (sym typed)
    (c.untyped_cast.ensures.failed forest later)
