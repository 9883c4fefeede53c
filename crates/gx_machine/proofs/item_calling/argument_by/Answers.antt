use Rattle.std.proofs.Common.{Option, ap}
use Rattle.std.proofs.lemmas.Result.{err_from_is_err_and}
use Rattle.gx_base.specs.declared.type_name.TypeName.TheVariants as names
use Rattle.gx_model.specs.Atomization.{atomized}
use Rattle.gx_model.specs.Item.{Items}
use Rattle.gx_core.specs.Converting.{converted_to}
use Rattle.gx_core.specs.Outcome.{gives, given}
use Rattle.std.proofs.Common.{Some}
use Rattle.gx_store.specs.Items.{items_in}
use Rattle.gx_machine.proofs.Resuming.{fails_through}
use Rattle.gx_machine.proofs.item_calling.argument_by.Goals as goal

pub returns-in_err-atomized-in-Data-clause-failed : goal.returns-in_err-atomized-in-Data-clause-failed
returns-in_err-atomized-in-Data-clause-failed c = λ later next x.
    let p = err_from_is_err_and c.from_residual.result c.from_residual.ensures.1 in
    rw (p.1, p.2, c.in-Data.is)
    (fails_through (given (atomized c.args.schemas.now c.args.store.now (items_in later c.args.items.now)) (λ ys. gives ys c.args.store.now)) next _ (c.in_err-atomized-in-Data.ensures.failed later x))

pub returns-in_err-converted_items-in-DataAndCast-clause-failed : goal.returns-in_err-converted_items-in-DataAndCast-clause-failed
returns-in_err-converted_items-in-DataAndCast-clause-failed c = λ later next x.
    let p = err_from_is_err_and c.from_residual-in_err-converted_items-in-DataAndCast.result c.from_residual-in_err-converted_items-in-DataAndCast.ensures.1 in
    rw (p.1, p.2, c.in-DataAndCast.is)
    (fails_through (converted_to (Some (names.Builtin c.in-DataAndCast.kind)) c.args.schemas.now (items_in later c.args.items.now) c.args.store.now) next _ (c.in_err-converted_items-in-DataAndCast.ensures.failed later x))

pub returns-in_ok-atomized-in-Data-clause-value : goal.returns-in_ok-atomized-in-Data-clause-value
returns-in_ok-atomized-in-Data-clause-value c = λ later x.
    rw c.in-Data.is (ap (λ (o : Option Items). given o (λ ys. gives ys c.args.store.now)) (c.in_ok-atomized-in-Data.ensures.value later x))

pub returns-in_ok-converted_items-in-DataAndCast-clause-value : goal.returns-in_ok-converted_items-in-DataAndCast-clause-value
returns-in_ok-converted_items-in-DataAndCast-clause-value c = λ later x. rw c.in-DataAndCast.is (c.in_ok-converted_items-in-DataAndCast.ensures.value later x)
