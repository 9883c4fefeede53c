use Rattle.std.proofs.Common.{◌≡◌, length}
use Rattle.gx_references.specs.Known.{known}
use Rattle.gx_schema_attributes.specs.Doubled.{doubled_in_parts}
use Rattle.gx_schema_attributes.specs.GivenUses.{nothing_given}
use Rattle.gx_schema_attributes.specs.GivingView.{HasNameSet, given_in}
use Rattle.gx_schema_attributes.proofs.doubled.doubled_in_parts.Given as goal

abbrev pub invariant-loop-part : goal.invariant-loop-part
invariant-loop-part l = record {
  indexed : HasNameSet l.giving;
  found : doubled_in_parts (known nothing_given l.groups) l.number (given_in l.giving) l.left ≡ doubled_in_parts (known nothing_given l.groups) l.number (given_in l.fn.giving) l.parts;
}

abbrev pub decreases-loop-part : goal.decreases-loop-part
decreases-loop-part l = length l.left
