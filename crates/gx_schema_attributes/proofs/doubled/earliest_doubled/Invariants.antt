use Rattle.std.proofs.Common.{◌≡◌, ◌+◌, length}
use Rattle.gx_references.specs.Known.{known}
use Rattle.std.specs.Prelude.{None}
use Rattle.gx_schema_attributes.specs.Doubled.{earliest_doubled}
use Rattle.gx_schema_attributes.specs.GivenUses.{nothing_given}
use Rattle.gx_schema_attributes.specs.GivingView.{uses_at}
use Rattle.gx_schema_attributes.proofs.doubled.earliest_doubled.Given as goal

abbrev pub invariant-loop-component : goal.invariant-loop-component
invariant-loop-component l = record {
  counted : l.number + length l.left ≡ length l.types;
  found : earliest_doubled (uses_at l.uses) (known nothing_given l.groups) l.found l.number l.left ≡ earliest_doubled (uses_at l.uses) (known nothing_given l.groups) None 0 l.types;
}

abbrev pub decreases-loop-component : goal.decreases-loop-component
decreases-loop-component l = length l.left
