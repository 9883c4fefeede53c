use Rattle.std.proofs.Common.{◌≡◌, ◌-◌, length, take, drop, rules, arith, length-drop}
use Rattle.std.proofs.lemmas.List.{take_all}
use Rattle.gx_io.proofs.KnownLemmas.{Appends-take}
use Rattle.gx_io.proofs.writer_sink.write_and_flush.Goals as goal

pub loop-written-preserved : goal.loop-written-preserved
loop-written-preserved g c =
    let bytes = c.args.bytes.now in
    let written = c.loop-written.written in
    let rest : take (length bytes - written) (drop written bytes) ≡ drop written bytes =
    take_all (length bytes - written) (drop written bytes) (omega (arith, length-drop written bytes)) in
    record {
      within = search rules;
      appends = Appends-take _ _ _ bytes written c.in-Ok.count c.loop-written.invariant.appends
          (rw rest at (c.in-Ok.ensures.bytes));
    }
