use Rattle.std.proofs.Common.{◌≡◌, ◌≤◌, ◌++◌, ℕ, List, length}
use Rattle.gx_include.specs.Origins.{AreRuns}
use Rattle.gx_include.specs.Walk.{run_at}
use Rattle.gx_include.proofs.decide.run_of.Given as goal

abbrev pub invariant-loop-at : goal.invariant-loop-at
invariant-loop-at l = record { within : l.at ≤ length l.origins; so_far : (runs : List (List ℕ)) → AreRuns l.origins runs → l.run.items ++ run_at runs l.at ≡ run_at runs l.place }

abbrev pub decreases-loop-at : goal.decreases-loop-at
decreases-loop-at l = l.at
