use Rattle.std.proofs.Common.{◌≡◌, ◌<◌, ◌+◌, ◌++◌, ◌∷◌, [], ℕ, List, length, take, drop, Option, IfSome, append-nil, ap, sym, subst, ◌∙◌}
use Rattle.gx_model.specs.Item.{Items, Item as PlainItem}
use Rattle.gx_store.specs.declared.item.Item.{Item}
use Rattle.gx_store.specs.Items.{item_in, items_in}
use Rattle.gx_machine.specs.OneItem.{item_found}
use Rattle.gx_machine.proofs.Picked.{one_is_kept}
use Rattle.gx_machine.proofs.filtering.keep_found.Goals as goal

pub returns-in_default : goal.returns-in_default
returns-in_default c = λ later.
    let values : Items = items_in later c.args.values.now.items in
    c.cut_off.ensures later
    ∙ sym (ap (λ (found : Option ℕ). take c.args.first values ++ item_found found (drop c.args.first values)) c.in_default.is ∙ append-nil (take c.args.first values))

pub returns : goal.returns
returns c = λ later.
    let old : List Item = c.args.values.now.items in
    let values : Items = items_in later old in
    let rest : List Item = c.pop.new.self.items in
    let within : c.in-Some.index < length (drop c.args.first old) = subst (λ (found : Option ℕ). IfSome found (λ index. index < length (drop c.args.first old))) c.in-Some.is c.requires in
    let taken : take (c.args.first + c.in-Some.index + 1) old ≡ rest ++ c.in-Some-pop.item ∷ [] = sym c.truncate.ensures.items ∙ c.in-Some-pop.ensures.items in
    ap (items_in later) (c.in_ok-push.ensures.items ∙ ap (λ (v : List Item). v ++ c.in-Some-pop.item ∷ []) c.truncate-2.ensures.items)
    ∙ one_is_kept Item PlainItem (item_in later) c.args.first c.in-Some.index old rest c.in-Some-pop.item within taken
    ∙ ap (λ (found : Option ℕ). take c.args.first values ++ item_found found (drop c.args.first values)) (sym c.in-Some.is)
