use Rattle.std.proofs.Common.{◌≡◌, map, take}
use Rattle.gx_core.specs.Expression.{annotation_of}
use Rattle.gx_static.proofs.forms.kinds.Given as goal

-- the types of the expressions so far
abbrev pub invariant-loop-expression : goal.invariant-loop-expression
invariant-loop-expression l = l.kinds.items ≡ map annotation_of (take l.expression-index l.expressions)
