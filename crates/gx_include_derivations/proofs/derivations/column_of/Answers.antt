use Rattle.std.proofs.Common.{arith}
use Rattle.gx_include_derivations.proofs.Derived.{column_is}
use Rattle.gx_include_derivations.proofs.derivations.column_of.Goals as goal

pub returns : goal.returns
returns c =
    column_is c.args.schemas.now c.args.kind.now c.loop-number.column.items c.loop-number.number c.loop-number.invariant.count
    (omega (arith, c.requires.count_is, c.loop-number-test.false, c.loop-number.auto.number-end)) c.loop-number.invariant.are
