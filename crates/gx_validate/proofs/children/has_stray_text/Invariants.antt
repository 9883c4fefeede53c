use Rattle.std.proofs.Common.{◌≡◌, length}
use Rattle.gx_xml.specs.SourceView.{contents_of}
use Rattle.gx_validate.specs.Rules.{has_stray_text}
use Rattle.gx_validate.proofs.children.has_stray_text.Given as goal

-- what is left decides
abbrev pub invariant-loop-child : goal.invariant-loop-child
invariant-loop-child l = has_stray_text l.texts (contents_of l.left) ≡ has_stray_text l.texts (contents_of l.fn.children)

abbrev pub decreases-loop-child : goal.decreases-loop-child
decreases-loop-child l = length l.left
