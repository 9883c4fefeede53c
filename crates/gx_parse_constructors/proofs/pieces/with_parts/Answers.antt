use Rattle.std.proofs.Common.{◌∙◌, ap, sym, refl, inl, inr, if◌then◌else◌, ◌++◌}
use Rattle.gx_parse_constructors.proofs.ContentPhrases.{no_parts}
use Rattle.gx_parse_constructors.proofs.pieces.with_parts.Goals as goal

pub returns-then-is_empty : goal.returns-then-is_empty
returns-then-is_empty c = inl (ap (λ us. us ++ c.args.further.items) (sym (no_parts c.args.parts.items c.args.parts.len c.is_empty.result (sym c.args.parts.ok.0) c.is_empty.ensures c.if-is_empty.true)), refl)

pub returns-then-is_err : goal.returns-then-is_err
returns-then-is_err c = inr c.lose.ensures

pub returns : goal.returns
returns c = inl (c.append.ensures.items ∙ ap (λ b. if b then (c.args.parts.items ++ c.args.further.items) else c.args.parts.items) c.if-is_err.ensures.negation, refl)
