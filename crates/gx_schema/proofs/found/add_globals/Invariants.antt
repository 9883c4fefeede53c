use Rattle.std.proofs.Common.{◌≡◌, ◌++◌, length}
use Rattle.std.specs.List.{flat_map}
use Rattle.gx_schema.specs.Found.{found_global}
use Rattle.gx_schema.proofs.found.add_globals.Given as goal

-- those so far and those that are left
abbrev pub invariant-loop-declaration : goal.invariant-loop-declaration
invariant-loop-declaration l = l.found.items ++ flat_map (found_global l.kind l.file) l.left ≡ l.fn.found.items ++ flat_map (found_global l.kind l.file) l.fn.declarations

abbrev pub decreases-loop-declaration : goal.decreases-loop-declaration
decreases-loop-declaration l = length l.left
