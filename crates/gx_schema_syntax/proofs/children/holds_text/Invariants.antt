use Rattle.std.proofs.Common.{◌≡◌, length}
use Rattle.gx_xml.specs.SourceView.{contents_of}
use Rattle.gx_schema_syntax.specs.Contents.{holds_text}
use Rattle.gx_schema_syntax.proofs.children.holds_text.Given as goal

-- what is left decides
abbrev pub invariant-loop-child : goal.invariant-loop-child
invariant-loop-child l = holds_text (contents_of l.left) ≡ holds_text (contents_of l.fn.children)

abbrev pub decreases-loop-child : goal.decreases-loop-child
decreases-loop-child l = length l.left
