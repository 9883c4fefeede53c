use Rattle.std.proofs.Common.{◌≡◌, ◌++◌, length}
use Rattle.std.specs.Prelude.{option_copied}
use Rattle.gx_xml.specs.SourceView.{contents_of}
use Rattle.gx_validate.specs.ElementContent.{child_shapes}
use Rattle.gx_qnames.specs.ScopeView.{declared_in}
use Rattle.gx_validate.proofs.children.child_shapes.Given as goal

-- the shapes so far and those of the children that are left
abbrev pub invariant-loop-child : goal.invariant-loop-child
invariant-loop-child l =
    l.shapes.items ++ child_shapes l.schemas (declared_in l.scope) (option_copied l.holder) (contents_of l.left)
    ≡ child_shapes l.schemas (declared_in l.scope) (option_copied l.holder) (contents_of l.fn.children)

abbrev pub decreases-loop-child : goal.decreases-loop-child
decreases-loop-child l = length l.left
