use Rattle.gx_references.specs.PlainReferences.{numbers_in}
use Rattle.gx_references.specs.Reach.{IsReach}
use Rattle.gx_references.specs.Search.{work}
use Rattle.gx_references.proofs.circles.is_circular.Given as goal

abbrev pub invariant-loop-number : goal.invariant-loop-number
invariant-loop-number l = IsReach numbers_in l.references l.start l.reached.items l.pending.items

abbrev pub decreases-loop-number : goal.decreases-loop-number
decreases-loop-number l = work numbers_in l.references l.reached.items l.pending.items
