use Rattle.std.proofs.Common.{◌≡◌, ◌++◌, length}
use Rattle.gx_core.specs.Constructing.{spaced_values}
use Rattle.gx_machine.proofs.constructing.push_spaced.Given as goal

-- the text so far, and that of the values that are left
abbrev pub invariant-loop-value : goal.invariant-loop-value
invariant-loop-value l = l.text ++ spaced_values l.left ≡ l.fn.text ++ spaced_values l.fn.values

abbrev pub decreases-loop-value : goal.decreases-loop-value
decreases-loop-value l = length l.left
