use Rattle.std.proofs.Common.{◌≡◌, ℕ, suc, ◌+◌, ◌-◌, Bool, sym, ◌∙◌, ap, arith}
use Rattle.gx_schema.specs.FirstNumber.{first_number}
use Rattle.gx_schema.specs.MeaningsView.{effective_at, is_past_limit}
use Rattle.gx_schema.specs.TooLarge.{has_too_many}
use Rattle.gx_schema.proofs.NumberLemmas.{is_the_least, passed_over}
use Rattle.gx_schema.proofs.too_large.first_past_limit.Goals as goal

pub returns-then-has_too_many : goal.returns-then-has_too_many
returns-then-has_too_many c =
    let test = is_past_limit c.args.contents.now c.args.positions.now in
    let number = c.loop-number.number in
    let less = c.args.count - (number + 1) in
    let left : c.args.count - number ≡ suc less = omega (arith, c.loop-number-test.true) in
    let judged : c.has_too_many.result ≡ test number = c.has_too_many.ensures
    ∙ ap (λ (b : Bool). has_too_many b c.count_at.result) c.is_mixed.ensures
    ∙ ap (has_too_many (effective_at c.args.contents.now number).mixed) c.count_at.ensures in
    sym (is_the_least test number (c.args.count - number) less left (sym judged ∙ c.if-has_too_many.true)) ∙ c.loop-number.invariant

pub loop-number-preserved : goal.loop-number-preserved
loop-number-preserved c =
    let test = is_past_limit c.args.contents.now c.args.positions.now in
    let number = c.loop-number.number in
    let less = c.args.count - (number + 1) in
    let left : c.args.count - number ≡ suc less = omega (arith, c.loop-number-test.true) in
    let next : number + 1 ≡ suc number = omega arith in
    let judged : c.has_too_many.result ≡ test number = c.has_too_many.ensures
    ∙ ap (λ (b : Bool). has_too_many b c.count_at.result) c.is_mixed.ensures
    ∙ ap (has_too_many (effective_at c.args.contents.now number).mixed) c.count_at.ensures in
    ap (λ (n : ℕ). first_number test n less) next ∙ passed_over test number (c.args.count - number) less left (sym judged ∙ c.if-has_too_many.false) ∙ c.loop-number.invariant
