use Rattle.std.proofs.Common.{◌+◌, arith}
use Rattle.gx_num.proofs.Digits.{digits_value_next, digits_value_prefix}
use Rattle.gx_num.proofs.reading.natural.Goals as goal

pub returns-in_err-checked_mul : goal.returns-in_err-checked_mul
returns-in_err-checked_mul c =
    let next = digits_value_next c.args.digits.now c.loop-digit.digit-index c.requires c.loop-digit-test.true in
    let prefix = digits_value_prefix c.args.digits.now (c.loop-digit.digit-index + 1) in
    rw c.from_residual.ensures (λ small. c.in_err-checked_mul.ensures (omega arith))

pub returns-in_err-value : goal.returns-in_err-value
returns-in_err-value c =
    let next = digits_value_next c.args.digits.now c.loop-digit.digit-index c.requires c.loop-digit-test.true in
    let prefix = digits_value_prefix c.args.digits.now (c.loop-digit.digit-index + 1) in
    rw c.from_residual-in_err-value.ensures (λ small. c.in_err-value.ensures (omega arith))
