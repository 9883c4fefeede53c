use Rattle.std.proofs.Common.{◌≡◌, drop}
use Rattle.gx_machine.proofs.tuples.unbind_innermost.Given as goal

-- what is left to be taken away is so of what is there
abbrev pub invariant-loop-left : goal.invariant-loop-left
invariant-loop-left l = drop l.left l.scope ≡ drop l.fn.count l.fn.scope

abbrev pub decreases-loop-left : goal.decreases-loop-left
decreases-loop-left l = l.left
