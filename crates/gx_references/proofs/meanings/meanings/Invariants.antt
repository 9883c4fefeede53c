use Rattle.gx_references.specs.Search.{IsSearch, work}
use Rattle.gx_references.proofs.meanings.meanings.Given as goal

abbrev pub invariant-loop-number : goal.invariant-loop-number
invariant-loop-number g l = IsSearch g.B.Body.named g.B.Body.meant g.B.Body.nothing l.bodies l.table.items l.opened.items l.pending.items

abbrev pub decreases-loop-number : goal.decreases-loop-number
decreases-loop-number g l = work g.B.Body.named l.bodies l.opened.items l.pending.items
