use Rattle.std.proofs.Common.{◌≡◌, ◌++◌, length, map}
use Rattle.gx_schema.specs.RestrictedTypes.{is_restricted_type, restricted_types}
use Rattle.gx_schema.proofs.restricted_types.restricted_types.Given as goal

-- those so far and those that are left
abbrev pub invariant-loop-component : goal.invariant-loop-component
invariant-loop-component l = l.restricted.items ++ map is_restricted_type l.left ≡ restricted_types l.fn.types

abbrev pub decreases-loop-component : goal.decreases-loop-component
decreases-loop-component l = length l.left
