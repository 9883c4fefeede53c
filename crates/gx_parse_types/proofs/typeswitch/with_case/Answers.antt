use Rattle.std.proofs.Common.{◌∙◌, ap, refl, inl, inr, if◌then◌else◌, ◌++◌, ◌∷◌, []}
use Rattle.gx_parse_types.proofs.typeswitch.with_case.Goals as goal

pub returns-then-is_err : goal.returns-then-is_err
returns-then-is_err c = inr (c.push.ensures.items ∙ ap (λ b. if b then (c.args.cases.items ++ c.args.case ∷ []) else c.args.cases.items) c.if-is_err.ensures.negation, c.lose.ensures)

pub returns : goal.returns
returns c = inl (c.push.ensures.items ∙ ap (λ b. if b then (c.args.cases.items ++ c.args.case ∷ []) else c.args.cases.items) c.if-is_err.ensures.negation, refl)
