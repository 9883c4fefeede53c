use Rattle.std.proofs.Common.{◌≡◌, ◌++◌, length}
use Rattle.gx_schema_components.specs.DeclaredNames.{names_of_kind}
use Rattle.gx_schema_components.proofs.names.add_names_of_kind.Given as goal

-- the names so far and those that are left
abbrev pub invariant-loop-declaration : goal.invariant-loop-declaration
invariant-loop-declaration l = l.names.items ++ names_of_kind l.kind l.left ≡ l.fn.names.items ++ names_of_kind l.kind l.fn.declarations

abbrev pub decreases-loop-declaration : goal.decreases-loop-declaration
decreases-loop-declaration l = length l.left
