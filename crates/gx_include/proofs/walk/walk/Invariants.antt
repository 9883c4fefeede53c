use Rattle.std.proofs.Common.{◌-◌, ◌^◌}
use Rattle.gx_include.specs.Outcome.{IsBadBelow, HasWalked}
use Rattle.gx_include.proofs.walk.walk.Given as goal

abbrev pub invariant-loop-at : goal.invariant-loop-at
invariant-loop-at l = record { walked : HasWalked l.left l.right l.letters l.limit l.pairs.keys l.origins.items l.at; bad : IsBadBelow l.left l.right l.pairs.keys l.at l.bad }

abbrev pub decreases-loop-at : goal.decreases-loop-at
decreases-loop-at l = 2 ^ 64 - l.at
