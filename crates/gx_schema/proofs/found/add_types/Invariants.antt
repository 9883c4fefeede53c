use Rattle.std.proofs.Common.{◌≡◌, ◌++◌, length, map}
use Rattle.gx_schema.specs.Found.{found_type}
use Rattle.gx_schema.proofs.found.add_types.Given as goal

-- those so far and those that are left
abbrev pub invariant-loop-declaration : goal.invariant-loop-declaration
invariant-loop-declaration l = l.found.items ++ map (found_type l.file) l.left ≡ l.fn.found.items ++ map (found_type l.file) l.fn.types

abbrev pub decreases-loop-declaration : goal.decreases-loop-declaration
decreases-loop-declaration l = length l.left
