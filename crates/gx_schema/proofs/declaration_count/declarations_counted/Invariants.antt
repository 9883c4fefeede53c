use Rattle.std.proofs.Common.{◌≡◌, ◌++◌, length}
use Rattle.gx_schema.specs.DeclarationCount.{declarations_counted}
use Rattle.gx_schema.proofs.declaration_count.declarations_counted.Given as goal

-- those so far and those that are left
abbrev pub invariant-loop-document : goal.invariant-loop-document
invariant-loop-document l = l.counted.items ++ declarations_counted l.file l.left ≡ declarations_counted 0 l.fn.documents

abbrev pub decreases-loop-document : goal.decreases-loop-document
decreases-loop-document l = length l.left
