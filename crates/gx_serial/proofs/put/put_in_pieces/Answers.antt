use Rattle.std.proofs.Common.{arith}
use Rattle.gx_serial.proofs.PieceLemmas.{GrowsBy-piece, GrowsByPrefix-piece}
use Rattle.gx_serial.proofs.put.put_in_pieces.Goals as goal

pub returns-in-Err-clause-err : goal.returns-in-Err-clause-err
returns-in-Err-clause-err g c =
    GrowsByPrefix-piece _ _ _ c.args.bytes.now c.loop-done.done c.min-end.result (omega (arith, c.min-end.ensures)) c.loop-done.invariant.put c.in-Err.ensures.err

pub loop-done-preserved : goal.loop-done-preserved
loop-done-preserved g c = record {
  within = omega (arith, c.min-end.ensures);
  put = GrowsBy-piece _ _ _ c.args.bytes.now c.loop-done.done c.min-end.result (omega (arith, c.min-end.ensures)) c.loop-done.invariant.put c.in-Ok.ensures.ok;
  counted = omega (arith, c.loop-done.invariant.counted, c.put.ensures.counted);
}
