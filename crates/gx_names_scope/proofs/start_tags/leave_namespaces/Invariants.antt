use Rattle.std.proofs.Common.{◌≡◌, length}
use Rattle.gx_ast.specs.SyntaxView.{attributes_of}
use Rattle.gx_names_scope.specs.StartTags.{without_namespaces}
use Rattle.gx_names_scope.proofs.start_tags.leave_namespaces.Given as goal

-- what is left comes to the same as the whole
abbrev pub invariant-loop-attribute : goal.invariant-loop-attribute
invariant-loop-attribute l = record {
  names : without_namespaces (attributes_of l.left) l.names ≡ without_namespaces (attributes_of l.fn.attributes) l.fn.names;
}

abbrev pub decreases-loop-attribute : goal.decreases-loop-attribute
decreases-loop-attribute l = length l.left
