use Rattle.std.proofs.Common.{◌≡◌, ◌++◌, length}
use Rattle.std.specs.List.{flat_map}
use Rattle.gx_schema.specs.DeclarationCount.{member_counted}
use Rattle.gx_schema.proofs.declaration_count.add_members.Given as goal

-- those so far and those that are left
abbrev pub invariant-loop-member : goal.invariant-loop-member
invariant-loop-member l = l.counted.items ++ flat_map (member_counted l.file) l.left ≡ l.fn.counted.items ++ flat_map (member_counted l.file) l.fn.members

abbrev pub decreases-loop-member : goal.decreases-loop-member
decreases-loop-member l = length l.left
