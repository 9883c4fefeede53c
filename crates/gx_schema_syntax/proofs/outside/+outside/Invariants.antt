use Rattle.std.proofs.Common.{◌≡◌, ◌≤◌, ◌+◌, ◌*◌, length}
use Rattle.gx_xml.specs.SourceTree.{source_size, contents_size}
use Rattle.gx_xml.specs.SourceView.{contents_of}
use Rattle.gx_schema_syntax.specs.Outside.{outside_among}
use Rattle.gx_qnames.specs.ScopeView.{declared_in}
use Rattle.gx_schema_syntax.proofs.outside.+outside.Given as goal

-- what is left decides
abbrev pub invariant-outside_among-loop-child : goal.invariant-outside_among-loop-child
invariant-outside_among-loop-child l = record {
  found : outside_among (declared_in l.scope) l.role l.seen (contents_of l.left) ≡ outside_among (declared_in l.scope) l.role l.fn.seen (contents_of l.fn.children);
  smaller : contents_size (contents_of l.left) ≤ contents_size (contents_of l.fn.children);
}

abbrev pub decreases-outside_among-loop-child : goal.decreases-outside_among-loop-child
decreases-outside_among-loop-child l = length l.left

abbrev pub decreases-outside_element : goal.decreases-outside_element
decreases-outside_element l = 2 * source_size l.element.now

abbrev pub decreases-outside_among : goal.decreases-outside_among
decreases-outside_among l = 2 * contents_size (contents_of l.children.now) + 1
