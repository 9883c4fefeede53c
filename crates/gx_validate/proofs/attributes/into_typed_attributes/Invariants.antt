use Rattle.std.proofs.Common.{◌≡◌, ◌++◌, length}
use Rattle.gx_validate.specs.Outcome.{typed_attributes}
use Rattle.gx_validate.proofs.attributes.into_typed_attributes.Given as goal

-- the attributes so far and those that are left
abbrev pub invariant-loop-attribute : goal.invariant-loop-attribute
invariant-loop-attribute l = l.typed.items ++ typed_attributes l.uses l.left.rest.items ≡ typed_attributes l.uses l.fn.attributes.items

abbrev pub decreases-loop-attribute : goal.decreases-loop-attribute
decreases-loop-attribute l = length l.left.rest.items
