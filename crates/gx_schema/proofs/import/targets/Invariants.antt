use Rattle.std.proofs.Common.{◌≡◌, ◌++◌, length, map}
use Rattle.gx_schema_syntax.specs.DocumentTree.{DocumentTree}
use Rattle.gx_schema.proofs.import.targets.Given as goal

-- the namespaces so far and those that are left
abbrev pub invariant-loop-document : goal.invariant-loop-document
invariant-loop-document l = l.targets.items ++ map (λ (document : DocumentTree). document.target) l.left ≡ map (λ (document : DocumentTree). document.target) l.fn.documents

abbrev pub decreases-loop-document : goal.decreases-loop-document
decreases-loop-document l = length l.left
