use Rattle.std.proofs.Common.{◌≡◌, ◌++◌, length}
use Rattle.gx_xml.specs.SourceView.{contents_of}
use Rattle.gx_qnames.specs.ScopeView.{declared_in}
use Rattle.gx_schema_syntax.specs.Types.{members_written}
use Rattle.gx_schema_syntax.proofs.types.members_written.Given as goal

-- the members so far and those that are left
abbrev pub invariant-loop-child : goal.invariant-loop-child
invariant-loop-child l =
    l.members.items ++ members_written l.context (declared_in l.scope) l.at (contents_of l.left) ≡ members_written l.context (declared_in l.scope) l.fn.at (contents_of l.fn.children)

abbrev pub decreases-loop-child : goal.decreases-loop-child
decreases-loop-child l = length l.left
