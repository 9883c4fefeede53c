use Rattle.std.proofs.Common.{◌≡◌, ℕ, suc, ◌+◌, ◌-◌, sym, ◌∙◌, ap, arith}
use Rattle.gx_schema_simple.specs.Walk.{has_mark}
use Rattle.gx_schema.specs.FirstNumber.{first_number}
use Rattle.gx_schema.proofs.NumberLemmas.{passed_over}
use Rattle.gx_schema.proofs.circular.first_marked.Goals as goal

pub loop-number-preserved : goal.loop-number-preserved
loop-number-preserved c =
    let marked = has_mark c.args.marks.now in
    let number = c.loop-number.number in
    let less = c.args.count - (number + 1) in
    let left : c.args.count - number ≡ suc less = omega (arith, c.loop-number-test.true) in
    let next : number + 1 ≡ suc number = omega arith in
    ap (λ (n : ℕ). first_number marked n less) next ∙ passed_over marked number (c.args.count - number) less left (sym c.is_marked.ensures ∙ c.if-is_marked.false) ∙ c.loop-number.invariant
