use Rattle.std.proofs.Common.{◌≡◌, ◌++◌, length}
use Rattle.gx_schema_components.specs.DeclaredNames.{type_names_in}
use Rattle.gx_schema_components.proofs.names.type_names_in.Given as goal

-- the names so far and those that are left
abbrev pub invariant-loop-document : goal.invariant-loop-document
invariant-loop-document l = l.names.items ++ type_names_in l.left ≡ type_names_in l.fn.documents

abbrev pub decreases-loop-document : goal.decreases-loop-document
decreases-loop-document l = length l.left
