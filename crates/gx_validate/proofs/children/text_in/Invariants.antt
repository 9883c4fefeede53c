use Rattle.std.proofs.Common.{◌≡◌, ◌++◌, length}
use Rattle.gx_tree.specs.StringValue.{texts_joined}
use Rattle.gx_xml.specs.SourceView.{contents_of}
use Rattle.gx_validate.specs.Rules.{child_texts}
use Rattle.gx_validate.proofs.children.text_in.Given as goal

-- the text so far and the texts that are left
abbrev pub invariant-loop-child : goal.invariant-loop-child
invariant-loop-child l = l.text ++ texts_joined (child_texts (contents_of l.left)) ≡ texts_joined (child_texts (contents_of l.fn.children))

abbrev pub decreases-loop-child : goal.decreases-loop-child
decreases-loop-child l = length l.left
