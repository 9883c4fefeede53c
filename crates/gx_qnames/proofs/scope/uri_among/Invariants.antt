use Rattle.std.proofs.Common.{◌≡◌, length}
use Rattle.gx_qnames.specs.Scope.{declared_uri}
use Rattle.gx_qnames.proofs.scope.uri_among.Given as goal

-- what is left decides
abbrev pub invariant-loop-declaration : goal.invariant-loop-declaration
invariant-loop-declaration l = declared_uri l.left l.prefix ≡ declared_uri l.fn.declarations l.prefix

abbrev pub decreases-loop-declaration : goal.decreases-loop-declaration
decreases-loop-declaration l = length l.left
