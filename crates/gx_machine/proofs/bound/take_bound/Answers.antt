use Rattle.std.proofs.Common.{List, take, drop, refl, ap, ◌∙◌}
use Rattle.gx_store.specs.declared.item.Item.{Item}
use Rattle.gx_store.specs.Items.{items_in}
use Rattle.gx_machine.proofs.bound.take_bound.Goals as goal

pub returns-in-Some-clause-front : goal.returns-in-Some-clause-front
returns-in-Some-clause-front c = λ later. c.in-Some.ensures.front later refl

pub returns-clause-front : goal.returns-clause-front
returns-clause-front c = λ later. c.in_ok-value.ensures.front later ∙ ap (λ (v : List Item). take c.args.first (items_in later v)) (c.in_default.ensures.kept refl)

pub returns-clause-bound : goal.returns-clause-bound
returns-clause-bound c = λ later.
    ap (λ shared. items_in later shared.items) c.in_ok-new.ensures.ok ∙ c.in_ok-value.ensures.rest later ∙ ap (λ (v : List Item). drop c.args.first (items_in later v)) (c.in_default.ensures.kept refl)
