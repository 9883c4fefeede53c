use Rattle.std.proofs.Common.{◌≡◌, ◌++◌, List, [], map, ap, sym, rules, ◌∙◌}
use Rattle.std.proofs.lemmas.List.{map-append}
use Rattle.gx_model.specs.Item.{Items}
use Rattle.gx_store.specs.declared.item.Item.{Item}
use Rattle.gx_store.specs.Items.{item_in, items_in}
use Rattle.gx_machine.proofs.item_calling.joined.Goals as goal

pub returns-clause-value : goal.returns-clause-value
returns-clause-value c = λ later.
    let first = c.args.first.now in
    let second = c.args.second.now in
    let third = c.args.third.now in
    let none : c.new-answer.result.items ≡ [] = search rules in
    let one = c.in_ok-append_all.ensures later ∙ ap (λ (l : List Item). items_in later l ++ items_in later first) none in
    let two = c.in_ok-append_all-2.ensures later ∙ ap (λ (xs : Items). xs ++ items_in later second) one in
    c.in_ok-append_all-3.ensures later ∙ ap (λ (xs : Items). xs ++ items_in later third) two
    ∙ sym (map-append (item_in later) (first ++ second) third ∙ ap (λ (xs : Items). xs ++ items_in later third) (map-append (item_in later) first second))
