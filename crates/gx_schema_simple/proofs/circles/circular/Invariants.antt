use Rattle.gx_schema_simple.specs.Walk.{IsCircleSearch}
use Rattle.gx_schema_simple.proofs.circles.circular.Given as goal

abbrev pub invariant-loop-start : goal.invariant-loop-start
invariant-loop-start l = IsCircleSearch l.bases l.walks.items l.marks.items l.start
