use Rattle.std.proofs.Common.{◌≡◌, ◌++◌, List, ap, ◌∙◌}
use Rattle.gx_store.specs.declared.item.Item.{Item}
use Rattle.gx_store.specs.Items.{items_in}
use Rattle.gx_machine.proofs.item_calling.copied.Goals as goal

pub returns-clause-value : goal.returns-clause-value
returns-clause-value c = λ later. c.in_ok-append_all.ensures later ∙ ap (λ (l : List Item). items_in later l ++ items_in later c.args.items.now) c.in_ok-answer.ensures.items
