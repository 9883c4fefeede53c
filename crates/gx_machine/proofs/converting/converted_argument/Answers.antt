use Rattle.std.proofs.Common.{◌≡◌, Some, ap, sym, ◌∙◌, subst}
use Rattle.std.specs.Global.{Global}
use Rattle.std.specs.Prelude.{Vec}
use Rattle.std.proofs.lemmas.Result.{err_from_is_err_and}
use Rattle.gx_model.specs.Item.{Items}
use Rattle.gx_core.specs.Converting.{converted, converted_to}
use Rattle.gx_core.specs.Outcome.{gives}
use Rattle.gx_store.specs.declared.item.Item.{Item}
use Rattle.gx_store.specs.Items.{items_in}
use Rattle.gx_machine.specs.BoundItems.{bound_items}
use Rattle.gx_machine.proofs.Conversions.{kind_expected}
use Rattle.gx_machine.proofs.Resuming.{fails_also}
use Rattle.gx_machine.proofs.converting.converted_argument.Goals as goal

pub returns-in_default-clause-value : goal.returns-in_default-clause-value
returns-in_default-clause-value c = λ later x.
    subst (λ (v : Items). converted c.args.schemas.now c.args.expected.now v c.args.store.now ≡ gives v c.args.store.now) (c.as_slice.ensures later)
    (c.conversion.ensures.none c.args.schemas.now c.args.store.now later c.in_default.is)

pub returns-in_err-found-clause-failed : goal.returns-in_err-found-clause-failed
returns-in_err-found-clause-failed c = λ later x.
    let s = c.args.schemas.now in
    let p = err_from_is_err_and c.from_residual.result c.from_residual.ensures.1 in
    rw (p.1, p.2)
    (fails_also _ _ _
    (kind_expected s c.args.expected.now c.in-Some.kind.now (bound_items later c.args.argument) c.args.store.now c.in-Some.ensures.some
    ∙ ap (λ (v : Items). converted_to (Some c.in-Some.kind.now) s v c.args.store.now) (sym (c.as_slice-2.ensures later)))
    (c.in_err-found.ensures.failed later x))

pub returns-clause-value : goal.returns-clause-value
returns-clause-value c = λ later x.
    let s = c.args.schemas.now in
    kind_expected s c.args.expected.now c.in-Some.kind.now (bound_items later c.args.argument) c.args.store.now c.in-Some.ensures.some
    ∙ ap (λ (v : Items). converted_to (Some c.in-Some.kind.now) s v c.args.store.now) (sym (c.as_slice-2.ensures later))
    ∙ c.in_ok-found.ensures.value later x
    ∙ ap (λ (v : Vec Item Global). gives (items_in later v.items) c.args.store.now) (sym c.in_ok-new.ensures.ok)
