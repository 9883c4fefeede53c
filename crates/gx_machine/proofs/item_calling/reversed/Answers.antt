use Rattle.std.proofs.Common.{◌≡◌, ◌++◌, List, reverse, ap, sym, ◌∙◌}
use Rattle.gx_model.specs.Item.{Items}
use Rattle.gx_core.specs.Outcome.{gives}
use Rattle.gx_store.specs.declared.item.Item.{Item}
use Rattle.gx_store.specs.Items.{item_in, items_in}
use Rattle.gx_machine.proofs.ItemAnswers.{reverse_of_map}
use Rattle.gx_machine.proofs.item_calling.reversed.Goals as goal

pub returns-clause-value : goal.returns-clause-value
returns-clause-value c = λ forest later.
    let kept = c.in_ok-append_all.ensures later ∙ ap (λ (l : List Item). items_in later l ++ items_in later c.args.items.now) c.in_ok-answer.ensures.items in
    ap (λ (xs : Items). gives xs forest) (sym (ap (items_in later) c.reverse.ensures.items ∙ sym (reverse_of_map (item_in later) c.append_all.new.values.items) ∙ ap reverse kept))
