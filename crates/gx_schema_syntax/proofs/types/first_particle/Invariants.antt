use Rattle.std.proofs.Common.{◌≡◌, length}
use Rattle.gx_xml.specs.SourceView.{contents_of}
use Rattle.gx_qnames.specs.ScopeView.{declared_in}
use Rattle.gx_schema_syntax.specs.Types.{first_particle}
use Rattle.gx_schema_syntax.proofs.types.first_particle.Given as goal

-- what is left decides
abbrev pub invariant-loop-child : goal.invariant-loop-child
invariant-loop-child l = first_particle l.context (declared_in l.scope) l.at (contents_of l.left) ≡ first_particle l.context (declared_in l.scope) l.at (contents_of l.fn.children)

abbrev pub decreases-loop-child : goal.decreases-loop-child
decreases-loop-child l = length l.left
