use Rattle.std.proofs.Common.{◌≡◌, length}
use Rattle.gx_schema.specs.DeclarationCount.{found_behind}
use Rattle.gx_schema.specs.FirstFound.{earlier_found, first_found}
use Rattle.gx_schema.proofs.declaration_count.first_behind.Given as goal

-- what was found, and what is left
abbrev pub invariant-loop-declaration : goal.invariant-loop-declaration
invariant-loop-declaration l = earlier_found l.found (first_found (found_behind l.last) l.left) ≡ first_found (found_behind l.last) l.fn.declarations

abbrev pub decreases-loop-declaration : goal.decreases-loop-declaration
decreases-loop-declaration l = length l.left
