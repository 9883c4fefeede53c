use Rattle.std.proofs.Common.{◌≡◌, length}
use Rattle.gx_model.specs.Forest.{tree_at}
use Rattle.gx_model.proofs.lookup.tree_below.Given as goal

-- what is left of the path leads from here to where the path leads from the root
abbrev pub invariant-loop-position : goal.invariant-loop-position
invariant-loop-position l = tree_at l.here l.way ≡ tree_at l.tree l.path

abbrev pub decreases-loop-position : goal.decreases-loop-position
decreases-loop-position l = length l.way
