use Rattle.std.proofs.Common.{◌≡◌, Option, Some, ap, sym, ◌∙◌}
use Rattle.gx_num.specs.declared.Number.{Number}
use Rattle.gx_funcs.specs.Positions.{from_position}
use Rattle.gx_model.specs.Item.{Items}
use Rattle.gx_core.specs.ItemCalling.{number_of_items}
use Rattle.gx_core.specs.Outcome.{gives, given}
use Rattle.gx_store.specs.Items.{item_in, items_in}
use Rattle.gx_machine.proofs.ItemAnswers.{from_position_of_map}
use Rattle.gx_machine.proofs.item_calling.subsequence_from.Goals as goal

pub returns-in_ok-copied-in-Some-clause-value : goal.returns-in_ok-copied-in-Some-clause-value
returns-in_ok-copied-in-Some-clause-value c = λ forest later.
    let items = c.args.items.now in
    let start : Number = c.in-Some.start in
    let is : number_of_items (items_in later c.args.start.now) ≡ Some start = sym (c.number_of_items.ensures later) ∙ c.in-Some.is in
    ap (λ (o : Option Number). given o (λ n. gives (from_position n (items_in later items)) forest)) is
    ∙ ap (λ (xs : Items). gives xs forest) (from_position_of_map (item_in later) start items ∙ ap (items_in later) (sym c.from_position.ensures) ∙ sym (c.in_ok-copied-in-Some.ensures.value later))

pub returns-in-None-clause-failed : goal.returns-in-None-clause-failed
returns-in-None-clause-failed c = λ forest later.
    ap (λ (o : Option Number). given o (λ n. gives (from_position n (items_in later c.args.items.now)) forest)) (sym (c.number_of_items.ensures later) ∙ c.in-None.is)
