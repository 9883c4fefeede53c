use Rattle.std.proofs.Common.{◌-◌, ◌≤◌, length, take}
use Rattle.gx_io.specs.Put.{GrowsBy}
use Rattle.gx_serial.proofs.put.put_in_pieces.Given as goal

abbrev pub invariant-loop-done : goal.invariant-loop-done
invariant-loop-done g l = record {
  within : l.done ≤ length l.bytes;
  put : GrowsBy (g.S.Sink.written l.fn.sink) (g.S.Sink.written l.sink) (take l.done l.bytes);
  counted : g.S.Sink.faults l.fn.sink ≤ g.S.Sink.faults l.sink;
}

abbrev pub decreases-loop-done : goal.decreases-loop-done
decreases-loop-done g l = length l.bytes - l.done
