use Rattle.std.proofs.Common.{◌≡◌, ◌++◌, length}
use Rattle.gx_schema.specs.Found.{globals_found}
use Rattle.gx_schema.proofs.found.globals_found.Given as goal

-- those so far and those that are left
abbrev pub invariant-loop-document : goal.invariant-loop-document
invariant-loop-document l = l.found.items ++ globals_found l.kind l.file l.left ≡ globals_found l.kind 0 l.fn.documents

abbrev pub decreases-loop-document : goal.decreases-loop-document
decreases-loop-document l = length l.left
