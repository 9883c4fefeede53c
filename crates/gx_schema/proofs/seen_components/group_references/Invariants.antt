use Rattle.std.proofs.Common.{◌≡◌, ◌++◌, length, map}
use Rattle.gx_references.specs.PlainReferences.{numbers_in}
use Rattle.gx_schema_content.specs.GroupContents.{groups_in}
use Rattle.gx_schema.proofs.seen_components.group_references.Given as goal

abbrev pub invariant-loop-group : goal.invariant-loop-group
invariant-loop-group l = map numbers_in l.references.items ++ map groups_in l.left ≡ map groups_in l.groups

abbrev pub decreases-loop-group : goal.decreases-loop-group
decreases-loop-group l = length l.left
