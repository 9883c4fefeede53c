use Rattle.std.proofs.Common.{◌≡◌, length}
use Rattle.gx_schema_restriction.specs.Attributes.{first_added}
use Rattle.gx_schema_restriction.proofs.attributes.first_added.Given as goal

abbrev pub invariant-loop-given : goal.invariant-loop-given
invariant-loop-given l = first_added l.schemas l.base l.left ≡ first_added l.schemas l.base l.uses

abbrev pub decreases-loop-given : goal.decreases-loop-given
decreases-loop-given l = length l.left
