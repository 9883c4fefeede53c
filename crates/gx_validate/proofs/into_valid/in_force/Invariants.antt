use Rattle.std.proofs.Common.{◌≡◌, ◌++◌, length}
use Rattle.gx_validate.proofs.into_valid.in_force.Given as goal

abbrev pub invariant-loop-declaration : goal.invariant-loop-declaration
invariant-loop-declaration l = l.all.items ++ l.left ≡ l.fn.declarations.items ++ l.fn.scope

abbrev pub decreases-loop-declaration : goal.decreases-loop-declaration
decreases-loop-declaration l = length l.left
