use Rattle.std.proofs.Common.{◌≡◌, ◌++◌, length}
use Rattle.gx_schema_components.specs.DeclaredNames.{declarations_in, names_of_kind}
use Rattle.gx_schema_components.proofs.names.names_of_kind.Given as goal

-- the names so far and those that are left
abbrev pub invariant-loop-document : goal.invariant-loop-document
invariant-loop-document l = l.names.items ++ names_of_kind l.kind (declarations_in l.left) ≡ names_of_kind l.kind (declarations_in l.fn.documents)

abbrev pub decreases-loop-document : goal.decreases-loop-document
decreases-loop-document l = length l.left
