use Rattle.std.proofs.Common.{List, ◌++◌, take, drop, refl, ap, ◌∙◌}
use Rattle.gx_model.specs.Item.{Items}
use Rattle.gx_store.specs.declared.item.Item.{Item}
use Rattle.gx_store.specs.Items.{items_in}
use Rattle.gx_machine.proofs.Alone.{if_moved}
use Rattle.gx_machine.proofs.operand.move_from.Goals as goal

pub returns-in-Some-clause-front : goal.returns-in-Some-clause-front
returns-in-Some-clause-front c = λ later. c.in-Some.ensures.front later refl

pub returns-clause-front : goal.returns-clause-front
returns-clause-front c = λ later.
    if_moved c.move_behind.result (c.move_behind.ensures later)
    (λ moved. c.in_ok-taken.ensures.front later ∙ ap (λ (v : List Item). take c.args.number (items_in later v)) (c.in_default.ensures.kept refl))

pub returns-clause-moved : goal.returns-clause-moved
returns-clause-moved c = λ later.
    if_moved c.move_behind.result (c.move_behind.ensures later)
    (λ moved. moved ∙ ap (λ (v : Items). items_in later c.args.others.now.items ++ v)
    (c.in_ok-taken.ensures.rest later ∙ ap (λ (v : List Item). drop c.args.number (items_in later v)) (c.in_default.ensures.kept refl)))
