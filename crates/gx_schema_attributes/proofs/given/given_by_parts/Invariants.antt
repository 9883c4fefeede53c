use Rattle.std.proofs.Common.{◌≡◌, length}
use Rattle.std.specs.Prelude.{fold}
use Rattle.gx_references.specs.Known.{known}
use Rattle.gx_schema_attributes.specs.GivenUses.{nothing_given, with_attribute_part}
use Rattle.gx_schema_attributes.specs.GivingView.{HasNameSet, given_in}
use Rattle.gx_schema_attributes.proofs.given.given_by_parts.Given as goal

abbrev pub invariant-loop-part : goal.invariant-loop-part
invariant-loop-part l = record {
  indexed : HasNameSet l.giving;
  given : fold (with_attribute_part (known nothing_given l.groups)) (given_in l.giving) l.left ≡ fold (with_attribute_part (known nothing_given l.groups)) nothing_given l.parts;
}

abbrev pub decreases-loop-part : goal.decreases-loop-part
decreases-loop-part l = length l.left
