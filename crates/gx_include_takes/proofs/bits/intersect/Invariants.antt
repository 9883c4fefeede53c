use Rattle.gx_include_takes.proofs.WordSets.{AreMetBelow}
use Rattle.gx_include_takes.proofs.bits.intersect.Given as goal

abbrev pub invariant-loop-word : goal.invariant-loop-word
invariant-loop-word l = AreMetBelow l.fn.set.items l.other l.set.items l.word
