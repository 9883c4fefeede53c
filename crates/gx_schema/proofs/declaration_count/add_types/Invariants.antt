use Rattle.std.proofs.Common.{◌≡◌, ◌++◌, length}
use Rattle.std.specs.List.{flat_map}
use Rattle.gx_schema.specs.DeclarationCount.{type_declarations_counted}
use Rattle.gx_schema.proofs.declaration_count.add_types.Given as goal

-- those so far and those that are left
abbrev pub invariant-loop-declaration : goal.invariant-loop-declaration
invariant-loop-declaration l = l.counted.items ++ flat_map (type_declarations_counted l.file) l.left ≡ l.fn.counted.items ++ flat_map (type_declarations_counted l.file) l.fn.types

abbrev pub decreases-loop-declaration : goal.decreases-loop-declaration
decreases-loop-declaration l = length l.left
