use Rattle.std.proofs.Common.{◌≡◌, ◌≤◌, ◌+◌, ◌*◌, ◌++◌, length}
use Rattle.gx_xml.specs.SourceTree.{source_size, contents_size}
use Rattle.gx_xml.specs.SourceView.{contents_of}
use Rattle.gx_schema_syntax.specs.Numbers.{numbers_behind_all}
use Rattle.gx_qnames.specs.ScopeView.{declared_in}
use Rattle.gx_schema_syntax.specs.Types.{types_among}
use Rattle.gx_schema_syntax.proofs.types.+types.Given as goal

-- the types so far and those that are left
abbrev pub invariant-add_types_among-loop-child : goal.invariant-add_types_among-loop-child
invariant-add_types_among-loop-child l = record {
  types : l.types.items ++ types_among l.context (declared_in l.scope) l.at (contents_of l.left) ≡ l.fn.types.items ++ types_among l.context (declared_in l.scope) l.fn.at (contents_of l.fn.children);
  numbers : numbers_behind_all l.at (contents_of l.left) ≡ numbers_behind_all l.fn.at (contents_of l.fn.children);
  smaller : contents_size (contents_of l.left) ≤ contents_size (contents_of l.fn.children);
}

abbrev pub decreases-add_types_among-loop-child : goal.decreases-add_types_among-loop-child
decreases-add_types_among-loop-child l = length l.left

abbrev pub decreases-add_types : goal.decreases-add_types
decreases-add_types l = 2 * source_size l.element.now

abbrev pub decreases-add_types_among : goal.decreases-add_types_among
decreases-add_types_among l = 2 * contents_size (contents_of l.children.now) + 1
