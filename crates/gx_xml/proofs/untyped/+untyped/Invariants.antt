use Rattle.std.proofs.Common.{◌≡◌, ◌+◌, ◌*◌, take, map}
use Rattle.gx_xml.specs.SourceTree.{source_size, contents_size}
use Rattle.gx_xml.specs.SourceView.{contents_of}
use Rattle.gx_xml.specs.Untyped.{untyped_child}
use Rattle.gx_xml.proofs.UntypedLemmas.{child_size}
use Rattle.gx_xml.proofs.untyped.+untyped.Given as goal

abbrev pub invariant-untyped_contents-loop-child : goal.invariant-untyped_contents-loop-child
invariant-untyped_contents-loop-child l = l.trees.items ≡ map untyped_child (take l.child-index l.children.items)

abbrev pub decreases-untyped_element : goal.decreases-untyped_element
decreases-untyped_element l = 3 * source_size l.element.now

abbrev pub decreases-untyped_contents : goal.decreases-untyped_contents
decreases-untyped_contents l = 3 * contents_size (contents_of l.children.now.items) + 2

abbrev pub decreases-untyped_child : goal.decreases-untyped_child
decreases-untyped_child l = 3 * child_size l.child.now + 1
