use Rattle.std.proofs.Common.{◌≡◌, ◌++◌, length}
use Rattle.gx_static.proofs.switch_tasks.stacked_cases.Given as goal

-- those that are left stand before those on the stack
abbrev pub invariant-loop-case : goal.invariant-loop-case
invariant-loop-case l = l.left ++ l.stack ≡ l.fn.cases

abbrev pub decreases-loop-case : goal.decreases-loop-case
decreases-loop-case l = length l.left
