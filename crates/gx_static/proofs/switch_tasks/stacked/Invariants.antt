use Rattle.std.proofs.Common.{◌≡◌, ◌++◌, vec_len}
use Rattle.gx_static.proofs.switch_tasks.stacked.Given as goal

-- those that are left stand before those on the stack
abbrev pub invariant-loop-item : goal.invariant-loop-item
invariant-loop-item l = l.items.items ++ l.stack ≡ l.fn.items.items

abbrev pub decreases-loop-item : goal.decreases-loop-item
decreases-loop-item l = vec_len l.items
