use Rattle.std.proofs.Common.{◌++◌, List, ap, ◌∙◌}
use Rattle.std.proofs.lemmas.Result.{err_from_is_err_and}
use Rattle.gx_facets.specs.declared.Atomic.{Atomic}
use Rattle.gx_model.specs.Atomization.{atomized}
use Rattle.gx_model.specs.Forest.{then_found}
use Rattle.gx_core.specs.Comparing.{atoms_among}
use Rattle.gx_core.specs.Constructing.{spaced_values}
use Rattle.gx_store.specs.Items.{items_in}
use Rattle.gx_machine.proofs.MadeTrees.{text_fails, text_is_put}
use Rattle.gx_machine.proofs.constructing.push_part.Goals as goal

pub returns-in_err-values-clause-failed : goal.returns-in_err-values-clause-failed
returns-in_err-values-clause-failed c = λ later next x.
    let p = err_from_is_err_and c.from_residual.result c.from_residual.ensures.1 in
    rw (p.1, p.2)
    (text_fails _ (then_found (atomized c.args.schemas.now c.args.store.now (items_in later c.args.part.now)) atoms_among) next (λ after'. c.in_err-values.ensures.failed later after' x))

pub returns-clause-value : goal.returns-clause-value
returns-clause-value c = λ later x.
    text_is_put c.args.text.now c.push_spaced.new.text (then_found (atomized c.args.schemas.now c.args.store.now (items_in later c.args.part.now)) atoms_among) c.in_ok-values.values.items
    (c.in_ok-values.ensures.value later x) (c.in_ok-push_spaced.ensures ∙ ap (λ (values : List Atomic). c.args.text.now ++ spaced_values values) c.as_slice.ensures.value)
