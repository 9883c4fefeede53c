use Rattle.std.proofs.Common.{◌≡◌, ◌++◌, length}
use Rattle.gx_schema_attributes.specs.OwnUses.{prohibited_names}
use Rattle.gx_schema_attributes.proofs.own.prohibited_names.Given as goal

abbrev pub invariant-loop-part : goal.invariant-loop-part
invariant-loop-part l = l.names.items ++ prohibited_names l.left ≡ prohibited_names l.fn.parts

abbrev pub decreases-loop-part : goal.decreases-loop-part
decreases-loop-part l = length l.left
