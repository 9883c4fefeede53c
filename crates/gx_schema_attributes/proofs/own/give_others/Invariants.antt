use Rattle.std.proofs.Common.{◌≡◌, length}
use Rattle.std.specs.Prelude.{filter, fold}
use Rattle.gx_schema_attributes.specs.GivenUses.{with_use}
use Rattle.gx_schema_attributes.specs.GivingView.{HasNameSet, given_in}
use Rattle.gx_schema_attributes.specs.OwnUses.{is_other}
use Rattle.gx_schema_attributes.proofs.own.give_others.Given as goal

abbrev pub invariant-loop-attribute : goal.invariant-loop-attribute
invariant-loop-attribute l = record {
  indexed : HasNameSet l.giving;
  given : fold with_use (given_in l.giving) (filter (is_other l.replaced.keys) l.left) ≡ fold with_use (given_in l.fn.giving) (filter (is_other l.replaced.keys) l.base);
}

abbrev pub decreases-loop-attribute : goal.decreases-loop-attribute
decreases-loop-attribute l = length l.left
