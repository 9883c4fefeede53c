use Rattle.std.proofs.Common.{◌≡◌, ◌++◌, length}
use Rattle.gx_include_positions.specs.Positions.{both_set}
use Rattle.gx_include_positions.proofs.places.meet.Given as goal

abbrev pub invariant-loop-x : goal.invariant-loop-x
invariant-loop-x l = l.met.items ++ both_set l.pending.0.now l.pending.1.now ≡ both_set l.one l.other

abbrev pub decreases-loop-x : goal.decreases-loop-x
decreases-loop-x l = length l.pending.0.now
