use Rattle.std.proofs.Common.{◌≡◌, ◌≤◌, ◌+◌, ◌*◌, length}
use Rattle.gx_xml.specs.SourceTree.{source_size, contents_size}
use Rattle.gx_xml.specs.SourceView.{contents_of}
use Rattle.gx_schema_syntax.specs.Numbers.{numbers_behind_all}
use Rattle.gx_schema_syntax.proofs.numbers.+numbers.Given as goal

-- what is left leads to the same numbers
abbrev pub invariant-numbers_behind_all-loop-child : goal.invariant-numbers_behind_all-loop-child
invariant-numbers_behind_all-loop-child l = record {
  numbers : numbers_behind_all l.at (contents_of l.left) ≡ numbers_behind_all l.fn.at (contents_of l.fn.children);
  smaller : contents_size (contents_of l.left) ≤ contents_size (contents_of l.fn.children);
}

abbrev pub decreases-numbers_behind_all-loop-child : goal.decreases-numbers_behind_all-loop-child
decreases-numbers_behind_all-loop-child l = length l.left

abbrev pub decreases-numbers_behind : goal.decreases-numbers_behind
decreases-numbers_behind l = 2 * source_size l.element.now

abbrev pub decreases-numbers_behind_all : goal.decreases-numbers_behind_all
decreases-numbers_behind_all l = 2 * contents_size (contents_of l.children.now) + 1
