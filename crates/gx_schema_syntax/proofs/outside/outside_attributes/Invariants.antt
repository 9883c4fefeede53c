use Rattle.std.proofs.Common.{◌≡◌, length}
use Rattle.gx_schema_syntax.specs.Outside.{outside_attributes}
use Rattle.gx_qnames.specs.ScopeView.{declared_in}
use Rattle.gx_schema_syntax.proofs.outside.outside_attributes.Given as goal

-- what is left decides
abbrev pub invariant-loop-attribute : goal.invariant-loop-attribute
invariant-loop-attribute l = outside_attributes (declared_in l.scope) l.role l.left ≡ outside_attributes (declared_in l.scope) l.role l.fn.attributes

abbrev pub decreases-loop-attribute : goal.decreases-loop-attribute
decreases-loop-attribute l = length l.left
