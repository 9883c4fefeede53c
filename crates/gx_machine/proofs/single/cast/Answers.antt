use Rattle.std.proofs.Common.{◌≡◌, List, length, arith, ap, sym, subst, ◌∙◌}
use Rattle.gx_core.specs.Casting.{cast_items}
use Rattle.gx_store.specs.declared.item.Item.{Item}
use Rattle.gx_store.specs.Items.{items_in}
use Rattle.gx_machine.specs.Failing.{FailsSo}
use Rattle.gx_machine.proofs.Operands.{the_single}
use Rattle.gx_machine.proofs.single.cast.Goals as goal

pub returns-in-Ok-clause-value : goal.returns-in-Ok-clause-value
returns-in-Ok-clause-value c = λ forest later.
    let l : length c.args.operand.now ≡ 1 = omega arith in
    ap (λ (xs : List Item). cast_items c.args.schemas.now c.args.kind.now c.args.allows_empty (items_in later xs) forest) (the_single c.args.operand.now c.x-item.result l c.x-item.is)
    ∙ c.in-Ok.ensures.value c.args.allows_empty forest later

pub returns-in-Err-clause-failed : goal.returns-in-Err-clause-failed
returns-in-Err-clause-failed c = λ forest later.
    let l : length c.args.operand.now ≡ 1 = omega arith in
    subst (λ (xs : List Item). FailsSo c.in-Err.failure (cast_items c.args.schemas.now c.args.kind.now c.args.allows_empty (items_in later xs) forest)) (sym (the_single c.args.operand.now c.x-item.result l c.x-item.is))
    (c.in-Err.ensures.failed c.args.allows_empty forest later)
