use Rattle.std.proofs.Common.{◌≡◌, ◌≤◌, ◌+◌, ◌*◌, [], length}
use Rattle.std.specs.Prelude.{option_copied}
use Rattle.gx_xml.specs.SourceTree.{source_size, contents_size}
use Rattle.gx_xml.specs.SourceView.{contents_of}
use Rattle.gx_validate.specs.Outcome.{typed_contents}
use Rattle.gx_validate.proofs.into_valid.+into_valid.Given as goal

-- the trees that are done and the children that are left
abbrev pub invariant-into_typed_contents-loop-child : goal.invariant-into_typed_contents-loop-child
invariant-into_typed_contents-loop-child l = record {
  same : l.takers ≡ l.fn.takers;
  outcome : typed_contents l.fn.takers l.scope (option_copied l.holder) l.done.items (contents_of l.left.rest.items)
      ≡ typed_contents l.fn.takers l.scope (option_copied l.holder) [] (contents_of l.fn.children.items);
  smaller : contents_size (contents_of l.left.rest.items) ≤ contents_size (contents_of l.fn.children.items);
}

abbrev pub decreases-into_typed_contents-loop-child : goal.decreases-into_typed_contents-loop-child
decreases-into_typed_contents-loop-child l = length l.left.rest.items

abbrev pub decreases-into_typed : goal.decreases-into_typed
decreases-into_typed l = 4 * source_size l.element

abbrev pub decreases-into_typed_child : goal.decreases-into_typed_child
decreases-into_typed_child l = 4 * source_size l.element + 1

abbrev pub decreases-into_typed_contents : goal.decreases-into_typed_contents
decreases-into_typed_contents l = 4 * contents_size (contents_of l.children.items) + 2

abbrev pub decreases-into_typed_in_scope : goal.decreases-into_typed_in_scope
decreases-into_typed_in_scope l = 4 * contents_size (contents_of l.children.items) + 3
