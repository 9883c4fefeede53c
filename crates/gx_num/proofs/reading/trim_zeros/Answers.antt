use Rattle.std.proofs.Common.{◌-◌, sym, ◌∙◌, arith}
use Rattle.gx_num.proofs.Places.{trailing_zero_at, no_trailing_zero_at, none_left}
use Rattle.gx_num.proofs.reading.trim_zeros.Goals as goal
use Rattle.gx_num.proofs.reading.trim_zeros.Goals.{then-loop-len-test+else-digits-len-eq48, else-loop-len-test}

pub loop-len-preserved : goal.loop-len-preserved
loop-len-preserved c = record {
  within = omega arith;
  same = trailing_zero_at c.args.digits.now _ c.loop-len.len (omega arith) c.loop-len.invariant.within c.if-digits-len-eq48.true ∙ c.loop-len.invariant.same;
}

pub returns : goal.returns
returns c = elim c.loop-len-test.branch [
  | then-loop-len-test+else-digits-len-eq48 w ↦
      sym (no_trailing_zero_at c.args.digits.now (c.loop-len.len - 1) c.loop-len.len (omega arith) c.loop-len.invariant.within w.if-digits-len-eq48.false) ∙ c.loop-len.invariant.same
  | else-loop-len-test w ↦ sym (none_left c.args.digits.now c.loop-len.len w.loop-len-test.false) ∙ c.loop-len.invariant.same
]
