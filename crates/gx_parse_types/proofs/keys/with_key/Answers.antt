use Rattle.std.proofs.Common.{◌∙◌, ap, refl, inl, inr, if◌then◌else◌, ◌++◌, ◌∷◌, []}
use Rattle.gx_parse_types.proofs.keys.with_key.Goals as goal

pub returns-then-is_err : goal.returns-then-is_err
returns-then-is_err c = inr (c.push.ensures.items ∙ ap (λ b. if b then (c.args.keys.items ++ c.args.key ∷ []) else c.args.keys.items) c.if-is_err.ensures.negation, c.lose.ensures)

pub returns : goal.returns
returns c = inl (c.push.ensures.items ∙ ap (λ b. if b then (c.args.keys.items ++ c.args.key ∷ []) else c.args.keys.items) c.if-is_err.ensures.negation, refl)
