use Rattle.gx_schema_simple.proofs.Marks.{unreached}
use Rattle.gx_schema_simple.proofs.WalkLemmas.{IsWalking}
use Rattle.gx_schema_simple.proofs.circles.walk.Given as goal

abbrev pub invariant-loop-walks : goal.invariant-loop-walks
invariant-loop-walks l = IsWalking l.bases l.initial.walks.items l.walks.items l.start l.number

abbrev pub decreases-loop-walks : goal.decreases-loop-walks
decreases-loop-walks l = unreached l.walks.items
