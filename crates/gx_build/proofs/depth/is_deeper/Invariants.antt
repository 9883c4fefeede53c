use Rattle.std.proofs.Common.{◌≡◌, nat_lt}
use Rattle.gx_core.specs.Constructing.{depth_of_tree}
use Rattle.gx_build.specs.Depths.{are_too_deep, levels_left}
use Rattle.gx_build.proofs.depth.is_deeper.Given as goal

abbrev pub invariant-loop-level : goal.invariant-loop-level
invariant-loop-level l = are_too_deep l.levels ≡ nat_lt l.limit (depth_of_tree l.tree)

abbrev pub decreases-loop-level : goal.decreases-loop-level
decreases-loop-level l = levels_left l.levels
