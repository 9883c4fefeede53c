use Rattle.std.proofs.Common.{List, Option, ap, sym, ◌∙◌}
use Rattle.std.proofs.lemmas.Result.{err_from_is_err_and}
use Rattle.gx_model.specs.Atomization.{atomized}
use Rattle.gx_model.specs.Forest.{then_found}
use Rattle.gx_model.specs.Item.{Items}
use Rattle.gx_core.specs.Comparing.{atoms_among}
use Rattle.gx_store.specs.declared.item.Item.{Item}
use Rattle.gx_store.specs.Items.{items_in}
use Rattle.gx_machine.proofs.MadeTrees.{values_fail, no_values, values_found, values_missing}
use Rattle.gx_machine.proofs.constructing.values_of.Goals as goal

pub returns-in_err-typed-clause-failed : goal.returns-in_err-typed-clause-failed
returns-in_err-typed-clause-failed c = λ later next x.
    let p = err_from_is_err_and c.from_residual.result c.from_residual.ensures.1 in
    rw (p.1, p.2)
    (values_fail c.args.store.now _ (atomized c.args.schemas.now c.args.store.now (items_in later c.args.operand.now)) next (c.in_err-typed.ensures.failed later x))

pub returns-in-Some-clause-value : goal.returns-in-Some-clause-value
returns-in-Some-clause-value c = λ later x.
    ap (λ (o : Option Items). then_found o atoms_among) (c.in_ok-typed.ensures.value later x)
    ∙ ap (λ (items : List Item). atoms_among (items_in later items)) (sym c.as_slice.ensures.value)
    ∙ values_found c.in_ok-values.field-0 c.in-Some.values (items_in later c.as_slice.result.now) (c.in_ok-values.ensures later) c.in-Some.is

pub returns-clause-failed : goal.returns-clause-failed
returns-clause-failed c = λ later next x.
    no_values (atomized c.args.schemas.now c.args.store.now (items_in later c.args.operand.now)) (items_in later c.in_ok-typed.typed.items) next (c.in_ok-typed.ensures.value later x)
    (ap (λ (items : List Item). atoms_among (items_in later items)) (sym c.as_slice.ensures.value)
    ∙ values_missing c.in_ok-values.field-0 (items_in later c.as_slice.result.now) (c.in_ok-values.ensures later) c.in-None.is)
