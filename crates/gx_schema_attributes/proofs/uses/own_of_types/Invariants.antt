use Rattle.std.proofs.Common.{◌≡◌, ◌++◌, length, map}
use Rattle.gx_references.specs.Known.{known}
use Rattle.gx_schema_attributes.specs.GivenUses.{nothing_given}
use Rattle.gx_schema_attributes.specs.OwnUses.{own_of_type}
use Rattle.gx_schema_attributes.proofs.uses.own_of_types.Given as goal

abbrev pub invariant-loop-component : goal.invariant-loop-component
invariant-loop-component l = l.own.items ++ map (own_of_type (known nothing_given l.groups)) l.left ≡ map (own_of_type (known nothing_given l.groups)) l.types

abbrev pub decreases-loop-component : goal.decreases-loop-component
decreases-loop-component l = length l.left
