use Rattle.std.proofs.Common.{◌≡◌, ◌++◌, length}
use Rattle.std.specs.List.{flat_map}
use Rattle.gx_schema.specs.DeclarationCount.{global_counted}
use Rattle.gx_schema.proofs.declaration_count.add_globals.Given as goal

-- those so far and those that are left
abbrev pub invariant-loop-declaration : goal.invariant-loop-declaration
invariant-loop-declaration l = l.counted.items ++ flat_map (global_counted l.file) l.left ≡ l.fn.counted.items ++ flat_map (global_counted l.file) l.fn.declarations

abbrev pub decreases-loop-declaration : goal.decreases-loop-declaration
decreases-loop-declaration l = length l.left
