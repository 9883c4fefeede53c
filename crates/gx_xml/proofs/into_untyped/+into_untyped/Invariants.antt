use Rattle.std.proofs.Common.{◌≡◌, ◌≤◌, ◌+◌, ◌*◌, ◌++◌, length, map}
use Rattle.gx_xml.specs.SourceTree.{source_size, contents_size}
use Rattle.gx_xml.specs.SourceView.{contents_of}
use Rattle.gx_xml.specs.Untyped.{untyped_child}
use Rattle.gx_xml.proofs.UntypedLemmas.{child_size}
use Rattle.gx_xml.proofs.into_untyped.+into_untyped.Given as goal

-- the trees so far and those of the children that are left
abbrev pub invariant-into_contents-loop-child : goal.invariant-into_contents-loop-child
invariant-into_contents-loop-child l = record {
  trees : l.trees.items ++ map untyped_child l.left.rest.items ≡ map untyped_child l.fn.children.items;
  smaller : contents_size (contents_of l.left.rest.items) ≤ contents_size (contents_of l.fn.children.items);
}

abbrev pub decreases-into_contents-loop-child : goal.decreases-into_contents-loop-child
decreases-into_contents-loop-child l = length l.left.rest.items

abbrev pub decreases-into_element : goal.decreases-into_element
decreases-into_element l = 3 * source_size l.element

abbrev pub decreases-into_contents : goal.decreases-into_contents
decreases-into_contents l = 3 * contents_size (contents_of l.children.items) + 2

abbrev pub decreases-into_child : goal.decreases-into_child
decreases-into_child l = 3 * child_size l.child + 1
