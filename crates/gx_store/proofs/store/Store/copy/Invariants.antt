use Rattle.gx_store.specs.Copied.{AreCopying, left_to_copy}
use Rattle.gx_store.proofs.store.Store.copy.Given as goal

abbrev pub invariant-loop-here : goal.invariant-loop-here
invariant-loop-here l = AreCopying l.annotations l.self l.fn.node.number l.opened

abbrev pub decreases-loop-here : goal.decreases-loop-here
decreases-loop-here l = left_to_copy l.self l.opened
