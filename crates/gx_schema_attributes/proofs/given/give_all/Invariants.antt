use Rattle.std.proofs.Common.{◌≡◌, length}
use Rattle.std.specs.Prelude.{fold}
use Rattle.gx_schema_attributes.specs.GivenUses.{with_use}
use Rattle.gx_schema_attributes.specs.GivingView.{HasNameSet, given_in}
use Rattle.gx_schema_attributes.proofs.given.give_all.Given as goal

abbrev pub invariant-loop-attribute : goal.invariant-loop-attribute
invariant-loop-attribute l = record {
  indexed : HasNameSet l.giving;
  given : fold with_use (given_in l.giving) l.left ≡ fold with_use (given_in l.fn.giving) l.attributes;
}

abbrev pub decreases-loop-attribute : goal.decreases-loop-attribute
decreases-loop-attribute l = length l.left
