use Rattle.std.proofs.Common.{List, Some, map, ap, sym, ◌∙◌}
use Rattle.std.specs.Prelude.{option_map}
use Rattle.std.proofs.lemmas.Result.{err_from_is_err_and}
use Rattle.gx_funcs.specs.Texts.{Text}
use Rattle.gx_core.specs.Calling.{text_of_value}
use Rattle.gx_model.specs.Atomization.{atomized}
use Rattle.gx_store.specs.declared.item.Item.{Item}
use Rattle.gx_store.specs.Items.{items_in}
use Rattle.gx_machine.proofs.ArgumentTexts.{texts_fail}
use Rattle.gx_machine.proofs.calling.argument_texts.Goals as goal

pub returns-in_err-typed-clause-failed : goal.returns-in_err-typed-clause-failed
returns-in_err-typed-clause-failed c = λ later x.
    let forest = c.args.store.now in
    let p = err_from_is_err_and c.from_residual.result c.from_residual.ensures.1 in
    rw (p.1, p.2) (λ next. texts_fail c.in_err-typed.field-0.0 forest (atomized c.args.schemas.now forest (items_in later c.args.argument.now)) next (c.in_err-typed.ensures.failed later x))

pub returns-clause-value : goal.returns-clause-value
returns-clause-value c = λ later x.
    ap (option_map (map text_of_value)) (c.in_ok-typed.ensures.value later x)
    ∙ ap (λ (items : List Item). Some (map text_of_value (items_in later items))) (sym c.as_slice.ensures.value)
    ∙ ap (λ (texts : List Text). Some texts) (sym (c.in_ok-printed.ensures later))
