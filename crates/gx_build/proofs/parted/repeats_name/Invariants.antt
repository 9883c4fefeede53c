use Rattle.std.proofs.Common.{◌≡◌, length}
use Rattle.gx_core.specs.Constructing.{repeats_name}
use Rattle.gx_build.proofs.parted.repeats_name.Given as goal

abbrev pub invariant-loop-first : goal.invariant-loop-first
invariant-loop-first l = repeats_name l.left ≡ repeats_name l.fn.attributes

abbrev pub decreases-loop-first : goal.decreases-loop-first
decreases-loop-first l = length l.left
