use Rattle.std.proofs.Common.{◌≡◌, ◌++◌, length}
use Rattle.gx_ast.specs.SyntaxView.{attribute_parts_of}
use Rattle.gx_names_scope.specs.StartTags.{literal_value}
use Rattle.gx_names_scope.proofs.start_tags.literal_value.Given as goal

-- what is left comes to the same as the whole
abbrev pub invariant-loop-part : goal.invariant-loop-part
invariant-loop-part l = record {
  characters : l.characters ++ literal_value (attribute_parts_of l.left) ≡ literal_value (attribute_parts_of l.fn.value);
}

abbrev pub decreases-loop-part : goal.decreases-loop-part
decreases-loop-part l = length l.left
