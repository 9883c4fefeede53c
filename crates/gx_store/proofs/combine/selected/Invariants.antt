use Rattle.gx_store.proofs.CombinedLemmas.{SelectsOn}
use Rattle.gx_store.proofs.combine.selected.Given as goal

abbrev pub invariant-loop-node : goal.invariant-loop-node
invariant-loop-node l = SelectsOn l.wanted l.nodes l.others l.found.items l.rest l.node-index
