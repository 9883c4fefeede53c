use Rattle.gx_store.proofs.CombinedLemmas.{MergesOn}
use Rattle.gx_store.proofs.combine.merged.Given as goal

abbrev pub invariant-loop-node : goal.invariant-loop-node
invariant-loop-node l = MergesOn l.nodes l.others l.found.items l.rest l.node-index
