use Rattle.std.proofs.Common.{◌≡◌, ◌++◌, length}
use Rattle.gx_xml.specs.Untyped.{untyped_attributes}
use Rattle.gx_xml.proofs.untyped.untyped_attributes.Given as goal

-- the copies so far and those of the attributes that are left
abbrev pub invariant-loop-attribute : goal.invariant-loop-attribute
invariant-loop-attribute l = l.copies.items ++ untyped_attributes l.left ≡ untyped_attributes l.fn.attributes

abbrev pub decreases-loop-attribute : goal.decreases-loop-attribute
decreases-loop-attribute l = length l.left
