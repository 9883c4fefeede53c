use Rattle.std.proofs.Common.{◌≡◌, ℕ, drop, ◌∙◌, ap, arith}
use Rattle.gx_schema_content.specs.Disagreement.{first_kind}
use Rattle.gx_schema_content.proofs.disagreement.first_kinds.Goals as goal

pub returns : goal.returns
returns c name =
    let end : c.loop-number.number ≡ 0 = omega arith in
    c.loop-number.invariant name ∙ ap (λ (n : ℕ). first_kind (drop n c.args.elements.now) name) end
