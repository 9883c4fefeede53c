use Rattle.std.proofs.Common.{◌∙◌, ◌-◌, ◌∷◌, ◌++◌, [], ap, refl, inl, inr, if◌then◌else◌}
use Rattle.gx_parse_parts.proofs.parts.with_item.Goals as goal

pub returns-then-is_err : goal.returns-then-is_err
returns-then-is_err g c = inr (c.push.ensures.items ∙ ap (λ b. if b then (c.args.items.items ++ c.args.item ∷ []) else c.args.items.items) c.if-is_err.ensures.negation, c.lose.ensures)

pub returns : goal.returns
returns g c = inl (c.push.ensures.items ∙ ap (λ b. if b then (c.args.items.items ++ c.args.item ∷ []) else c.args.items.items) c.if-is_err.ensures.negation, refl)
