use Rattle.std.proofs.Common.{◌≡◌, length}
use Rattle.gx_validate.specs.InstanceAttributes.{given_type}
use Rattle.gx_validate.proofs.annotation.given_type.Given as goal

-- what is left decides
abbrev pub invariant-loop-attribute : goal.invariant-loop-attribute
invariant-loop-attribute l = given_type l.left ≡ given_type l.fn.attributes

abbrev pub decreases-loop-attribute : goal.decreases-loop-attribute
decreases-loop-attribute l = length l.left
