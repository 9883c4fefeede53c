use Rattle.std.proofs.Common.{◌≡◌, ◌++◌, length, map}
use Rattle.gx_schema_syntax.specs.declared.written.TypeDeclaration.{TypeDeclaration}
use Rattle.gx_schema_components.proofs.names.add_type_names.Given as goal

-- the names so far and those that are left
abbrev pub invariant-loop-declaration : goal.invariant-loop-declaration
invariant-loop-declaration l = l.names.items ++ map (λ (t : TypeDeclaration). t.name) l.left ≡ l.fn.names.items ++ map (λ (t : TypeDeclaration). t.name) l.fn.types

abbrev pub decreases-loop-declaration : goal.decreases-loop-declaration
decreases-loop-declaration l = length l.left
