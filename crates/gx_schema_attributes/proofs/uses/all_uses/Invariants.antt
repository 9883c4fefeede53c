use Rattle.std.proofs.Common.{◌≡◌, ◌++◌, length, map}
use Rattle.gx_schema_attributes.specs.TypeUses.{found_uses}
use Rattle.gx_schema_attributes.proofs.uses.all_uses.Given as goal

abbrev pub invariant-loop-found : goal.invariant-loop-found
invariant-loop-found l = l.uses.items ++ map found_uses l.left.rest.items ≡ map found_uses l.fn.table.items

abbrev pub decreases-loop-found : goal.decreases-loop-found
decreases-loop-found l = length l.left.rest.items
