use Rattle.std.proofs.Common.{◌≡◌, ℕ, suc, ◌+◌, ◌-◌, false, Bool, List, length, sym, ◌∙◌, ap, arith}
use Rattle.gx_schema_simple.specs.Circles.{is_circular}
use Rattle.gx_schema_simple.specs.CircularTypes.{first_circular_from}
use Rattle.gx_schema_simple.specs.Forms.{references_of}
use Rattle.gx_schema_simple.specs.Walk.{has_mark}
use Rattle.gx_schema_simple.proofs.EndLemmas.{first_later}
use Rattle.gx_schema_simple.proofs.circles.first_circular.Goals as goal

pub loop-number-preserved : goal.loop-number-preserved
loop-number-preserved c =
    let bases = references_of c.args.forms.now in
    let number = c.loop-number.number in
    let less = length c.args.forms.now - (number + 1) in
    let left : length c.args.forms.now - number ≡ suc less = omega (arith, c.loop-number-test.true) in
    let next : number + 1 ≡ suc number = omega arith in
    let straight : is_circular bases number ≡ false =
    sym (c.in_ok-marks.ensures number) ∙ sym (ap (λ (marks : List Bool). has_mark marks number) c.as_slice.ensures.value) ∙ sym c.is_marked.ensures ∙ c.if-is_marked.false
    in
    ap (λ (n : ℕ). first_circular_from bases n less) next ∙ first_later bases number (length c.args.forms.now - number) less left straight ∙ c.loop-number.invariant
