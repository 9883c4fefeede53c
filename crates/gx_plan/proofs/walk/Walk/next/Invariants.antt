use Rattle.std.proofs.Common.{◌≡◌}
use Rattle.gx_plan.specs.Walk.{walk_left}
use Rattle.gx_plan.proofs.walk.Walk.next.Given as goal

-- what is left stays the same until an expression is met
abbrev pub invariant-loop : goal.invariant-loop
invariant-loop g l = walk_left l.self.pending ≡ walk_left l.fn.self.pending
