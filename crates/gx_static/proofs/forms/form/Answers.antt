use Rattle.std.proofs.Common.{◌≡◌, ◌+◌, ℕ, suc, length, IfOk, sym, ◌∙◌, ap, subst, arith}
use Rattle.gx_core.specs.Expression.{no_parts}
use Rattle.gx_core.specs.ExpressionView.{parts_of}
use Rattle.gx_static.specs.Typing.{part_count, last_parts}
use Rattle.gx_static.proofs.forms.form.Goals as goal

pub returns-in-Switch-clause-parts : goal.returns-in-Switch-clause-parts
returns-in-Switch-clause-parts c = λ next.
    let same : length c.as_slice.result.now ≡ length c.in-Switch.cases = ap length c.as_slice.ensures in
    let counted : suc (length c.as_slice.result.now + 1) ≡ 2 + length c.in-Switch.cases = omega (arith, same) in
    let all : suc (length c.as_slice.result.now + 1) ≡ part_count c.args.operator = counted ∙ ap part_count (sym c.in-Switch.is) in
    subst (λ (n : ℕ). IfOk c.switch_form.result (λ form. last_parts n c.args.parts.now no_parts next ≡ next (parts_of form) c.switch_form.new.parts)) all (c.switch_form.ensures.parts next)
