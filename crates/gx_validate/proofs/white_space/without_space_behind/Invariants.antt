use Rattle.std.proofs.Common.{◌≡◌, length}
use Rattle.std.specs.Prelude.{reverse}
use Rattle.gx_validate.specs.Annotation.{without_space_before}
use Rattle.gx_validate.proofs.white_space.without_space_behind.Given as goal

-- what is left decides
abbrev pub invariant-loop-last : goal.invariant-loop-last
invariant-loop-last l = reverse (without_space_before (reverse l.rest)) ≡ reverse (without_space_before (reverse l.fn.characters))

abbrev pub decreases-loop-last : goal.decreases-loop-last
decreases-loop-last l = length l.rest
