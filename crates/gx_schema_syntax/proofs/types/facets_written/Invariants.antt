use Rattle.std.proofs.Common.{◌≡◌, ◌++◌, length}
use Rattle.gx_xml.specs.SourceView.{contents_of}
use Rattle.gx_schema_syntax.specs.Types.{facets_written}
use Rattle.gx_schema_syntax.proofs.types.facets_written.Given as goal

-- the facets so far and those that are left
abbrev pub invariant-loop-child : goal.invariant-loop-child
invariant-loop-child l = l.facets.items ++ facets_written l.at (contents_of l.left) ≡ facets_written l.fn.at (contents_of l.fn.children)

abbrev pub decreases-loop-child : goal.decreases-loop-child
decreases-loop-child l = length l.left
