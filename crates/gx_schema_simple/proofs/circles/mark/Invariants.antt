use Rattle.gx_schema_simple.proofs.Marks.{unmarked}
use Rattle.gx_schema_simple.proofs.WalkLemmas.{IsMarking}
use Rattle.gx_schema_simple.proofs.circles.mark.Given as goal

abbrev pub invariant-loop-marks : goal.invariant-loop-marks
invariant-loop-marks l = IsMarking l.bases l.initial.marks.items l.marks.items l.end l.number

abbrev pub decreases-loop-marks : goal.decreases-loop-marks
decreases-loop-marks l = unmarked l.marks.items
