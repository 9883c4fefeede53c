use Rattle.std.proofs.Common.{◌≡◌, ◌++◌, length}
use Rattle.gx_xml.specs.Untyped.{untyped_attributes}
use Rattle.gx_xml.proofs.into_untyped.into_attributes.Given as goal

-- the attributes so far and those that are left
abbrev pub invariant-loop-attribute : goal.invariant-loop-attribute
invariant-loop-attribute l = l.kept.items ++ untyped_attributes l.left.rest.items ≡ untyped_attributes l.fn.attributes.items

abbrev pub decreases-loop-attribute : goal.decreases-loop-attribute
decreases-loop-attribute l = length l.left.rest.items
