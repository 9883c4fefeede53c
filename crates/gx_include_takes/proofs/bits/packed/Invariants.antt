use Rattle.gx_include_takes.proofs.WordSets.{ArePackedBelow}
use Rattle.gx_include_takes.proofs.bits.packed.Given as goal

abbrev pub invariant-loop-number : goal.invariant-loop-number
invariant-loop-number l = ArePackedBelow l.flags l.set.items l.number
