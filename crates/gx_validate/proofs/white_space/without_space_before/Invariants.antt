use Rattle.std.proofs.Common.{◌≡◌, length}
use Rattle.gx_validate.specs.Annotation.{without_space_before}
use Rattle.gx_validate.proofs.white_space.without_space_before.Given as goal

-- what is left decides
abbrev pub invariant-loop-first : goal.invariant-loop-first
invariant-loop-first l = without_space_before l.rest ≡ without_space_before l.fn.characters

abbrev pub decreases-loop-first : goal.decreases-loop-first
decreases-loop-first l = length l.rest
