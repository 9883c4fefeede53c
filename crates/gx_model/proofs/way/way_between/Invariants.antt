use Rattle.std.proofs.Common.{◌≡◌, length}
use Rattle.gx_model.specs.Axes.{way_down}
use Rattle.gx_model.proofs.way.way_between.Given as goal

-- the way between what is left of both paths is that between the whole paths
abbrev pub invariant-loop-m : goal.invariant-loop-m
invariant-loop-m l = way_down l.from l.to ≡ way_down l.fn.from l.fn.to

abbrev pub decreases-loop-m : goal.decreases-loop-m
decreases-loop-m l = length l.from
