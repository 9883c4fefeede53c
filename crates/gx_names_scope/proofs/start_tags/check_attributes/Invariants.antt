use Rattle.std.proofs.Common.{◌≡◌, length}
use Rattle.gx_ast.specs.SyntaxView.{attributes_of}
use Rattle.gx_names_scope.specs.StartTags.{namespaces_refusals}
use Rattle.gx_names_scope.proofs.start_tags.check_attributes.Given as goal

-- what is left is refused as the whole
abbrev pub invariant-loop-attribute : goal.invariant-loop-attribute
invariant-loop-attribute l = record {
  refusals : namespaces_refusals l.earlier (attributes_of l.left) ≡ namespaces_refusals l.fn.earlier (attributes_of l.fn.attributes);
}

abbrev pub decreases-loop-attribute : goal.decreases-loop-attribute
decreases-loop-attribute l = length l.left
