use Rattle.std.proofs.Common.{◌≡◌, length}
use Rattle.gx_schema_restriction.specs.Attributes.{first_loosened}
use Rattle.gx_schema_restriction.proofs.attributes.first_loosened.Given as goal

abbrev pub invariant-loop-inherited : goal.invariant-loop-inherited
invariant-loop-inherited l = first_loosened l.left l.uses ≡ first_loosened l.base l.uses

abbrev pub decreases-loop-inherited : goal.decreases-loop-inherited
decreases-loop-inherited l = length l.left
