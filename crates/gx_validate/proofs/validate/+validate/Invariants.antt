use Rattle.std.proofs.Common.{◌≡◌, ◌≤◌, ◌+◌, ◌*◌, [], length}
use Rattle.std.specs.Prelude.{option_copied}
use Rattle.gx_xml.specs.SourceTree.{source_size, contents_size}
use Rattle.gx_xml.specs.SourceView.{contents_of}
use Rattle.gx_validate.specs.Outcome.{typed_contents}
use Rattle.gx_qnames.specs.ScopeView.{declared_in}
use Rattle.gx_validate.proofs.validate.+validate.Given as goal

-- the trees that are done and the children that are left
abbrev pub invariant-typed_contents-loop-child : goal.invariant-typed_contents-loop-child
invariant-typed_contents-loop-child l = record {
  same : l.takers ≡ l.fn.takers;
  outcome : typed_contents l.fn.takers (declared_in l.scope) (option_copied l.holder) l.done.items (contents_of l.left)
      ≡ typed_contents l.fn.takers (declared_in l.scope) (option_copied l.holder) [] (contents_of l.fn.children);
  smaller : contents_size (contents_of l.left) ≤ contents_size (contents_of l.fn.children);
}

abbrev pub decreases-typed_contents-loop-child : goal.decreases-typed_contents-loop-child
decreases-typed_contents-loop-child l = length l.left

abbrev pub decreases-typed_element : goal.decreases-typed_element
decreases-typed_element l = 4 * source_size l.element.now

abbrev pub decreases-typed_child : goal.decreases-typed_child
decreases-typed_child l = 4 * source_size l.element.now + 1

abbrev pub decreases-typed_contents : goal.decreases-typed_contents
decreases-typed_contents l = 4 * contents_size (contents_of l.children.now) + 2

abbrev pub decreases-typed_in_scope : goal.decreases-typed_in_scope
decreases-typed_in_scope l = 4 * contents_size (contents_of l.children.now) + 3
