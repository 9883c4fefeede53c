use Rattle.gx_include_takes.proofs.WordSets.{AreUnitedBelow}
use Rattle.gx_include_takes.proofs.bits.unite.Given as goal

abbrev pub invariant-loop-word : goal.invariant-loop-word
invariant-loop-word l = AreUnitedBelow l.fn.set.items l.other l.set.items l.word
