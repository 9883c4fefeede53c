use Rattle.std.proofs.Common.{◌≡◌, length}
use Rattle.gx_schema_components.specs.Bounds.{number_behind}
use Rattle.gx_schema_components.proofs.bounds.significant.Given as goal

-- the digits that are left write the number
abbrev pub invariant-loop-byte : goal.invariant-loop-byte
invariant-loop-byte l = number_behind 0 l.left ≡ number_behind 0 l.fn.digits

abbrev pub decreases-loop-byte : goal.decreases-loop-byte
decreases-loop-byte l = length l.left
