use Rattle.std.proofs.Common.{◌≡◌, ◌++◌, length}
use Rattle.gx_xml.specs.SourceView.{contents_of}
use Rattle.gx_qnames.specs.ScopeView.{declared_in}
use Rattle.gx_schema_syntax.specs.Documents.{globals_written}
use Rattle.gx_schema_syntax.proofs.documents.globals_written.Given as goal

-- the declarations so far and those that are left
abbrev pub invariant-loop-child : goal.invariant-loop-child
invariant-loop-child l =
    l.declarations.items ++ globals_written l.context (declared_in l.scope) l.at (contents_of l.left) ≡ globals_written l.context (declared_in l.scope) l.fn.at (contents_of l.fn.children)

abbrev pub decreases-loop-child : goal.decreases-loop-child
decreases-loop-child l = length l.left
