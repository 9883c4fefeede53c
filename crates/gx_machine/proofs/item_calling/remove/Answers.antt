use Rattle.std.proofs.Common.{◌≡◌, ℤ, ◌++◌, List, Option, Some, ap, sym, append-nil, rules, FitsSigned, ◌∙◌}
use Rattle.std.specs.Int.{w128}
use Rattle.std.proofs.lemmas.Int.{to_z-of_z}
use Rattle.gx_funcs.specs.Positions.{without_position}
use Rattle.gx_model.specs.Item.{Items}
use Rattle.gx_core.specs.ItemCalling.{integer_of_items}
use Rattle.gx_core.specs.Outcome.{gives, given}
use Rattle.gx_store.specs.declared.item.Item.{Item}
use Rattle.gx_store.specs.Items.{item_in, items_in}
use Rattle.gx_machine.proofs.ItemAnswers.{without_position_of_map}
use Rattle.gx_machine.proofs.item_calling.remove.Goals as goal

pub returns-in_ok-joined-in-Some-clause-value : goal.returns-in_ok-joined-in-Some-clause-value
returns-in_ok-joined-in-Some-clause-value c = λ forest later.
    let items = c.args.items.now in
    let position : ℤ = c.in-Some.position in
    let fits : FitsSigned w128 position = search rules in
    let is : integer_of_items (items_in later c.args.position.now) ≡ Some position = sym (c.integer_of_items.ensures later) ∙ c.in-Some.is in
    let before = c.without_position.result.0.now in
    let parts : without_position position items ≡ before ++ c.without_position.result.1.now =
    ap (λ (z : ℤ). without_position z items) (sym (to_z-of_z w128 position fits)) ∙ c.without_position.ensures in
    ap (λ (o : Option ℤ). given o (λ p. gives (without_position p (items_in later items)) forest)) is
    ∙ ap (λ (xs : Items). gives xs forest)
    (without_position_of_map (item_in later) position items ∙ ap (items_in later) (parts ∙ ap (λ (l : List Item). l ++ c.without_position.result.1.now) (sym (append-nil before)))
    ∙ sym (c.in_ok-joined-in-Some.ensures.value later))

pub returns-in-None-clause-failed : goal.returns-in-None-clause-failed
returns-in-None-clause-failed c = λ forest later.
    ap (λ (o : Option ℤ). given o (λ p. gives (without_position p (items_in later c.args.items.now)) forest)) (sym (c.integer_of_items.ensures later) ∙ c.in-None.is)
