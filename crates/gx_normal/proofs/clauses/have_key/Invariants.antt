use Rattle.std.proofs.Common.{◌≡◌, length}
use Rattle.gx_resolved.specs.ResolvedView.{resolved_parts}
use Rattle.gx_normal.specs.Clauses.{have_key}
use Rattle.gx_normal.proofs.clauses.have_key.Given as goal

-- a key stands among all parts where it stands among those that are left
abbrev pub invariant-loop-part : goal.invariant-loop-part
invariant-loop-part l = have_key (resolved_parts l.rest) ≡ have_key (resolved_parts l.parts)

abbrev pub decreases-loop-part : goal.decreases-loop-part
decreases-loop-part l = length l.rest
