use Rattle.std.proofs.Common.{◌≡◌, length}
use Rattle.gx_validate.specs.Rules.{has_bad_attribute}
use Rattle.gx_validate.proofs.values.has_bad_attribute.Given as goal

-- what is left decides
abbrev pub invariant-loop-attribute : goal.invariant-loop-attribute
invariant-loop-attribute l = has_bad_attribute l.schemas l.uses l.left ≡ has_bad_attribute l.schemas l.uses l.fn.attributes

abbrev pub decreases-loop-attribute : goal.decreases-loop-attribute
decreases-loop-attribute l = length l.left
