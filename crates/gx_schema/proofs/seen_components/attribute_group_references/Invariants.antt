use Rattle.std.proofs.Common.{◌≡◌, ◌++◌, length, map}
use Rattle.gx_references.specs.PlainReferences.{numbers_in}
use Rattle.gx_schema.specs.SeenComponents.{attribute_groups_in_group}
use Rattle.gx_schema.proofs.seen_components.attribute_group_references.Given as goal

abbrev pub invariant-loop-group : goal.invariant-loop-group
invariant-loop-group l = map numbers_in l.references.items ++ map attribute_groups_in_group l.left ≡ map attribute_groups_in_group l.groups

abbrev pub decreases-loop-group : goal.decreases-loop-group
decreases-loop-group l = length l.left
