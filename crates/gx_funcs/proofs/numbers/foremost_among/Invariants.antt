use Rattle.std.proofs.Common.{◌≡◌, length}
use Rattle.gx_funcs.specs.Numbers.{foremost}
use Rattle.gx_funcs.proofs.numbers.foremost_among.Given as goal

abbrev pub invariant-loop-value : goal.invariant-loop-value
invariant-loop-value l = foremost l.op l.best l.left ≡ foremost l.fn.op l.fn.first l.fn.others

abbrev pub decreases-loop-value : goal.decreases-loop-value
decreases-loop-value l = length l.left
