use Rattle.std.proofs.Common.{◌≡◌, [], length}
use Rattle.gx_static.specs.QueryJudgement.{first_unsettled}
use Rattle.gx_static.proofs.infer.first_unsettled.Given as goal

-- those that are left are settled as all are
abbrev pub invariant-loop-declaration : goal.invariant-loop-declaration
invariant-loop-declaration l = first_unsettled l.uses l.left l.scope ≡ first_unsettled l.uses l.fn.declarations []

abbrev pub decreases-loop-declaration : goal.decreases-loop-declaration
decreases-loop-declaration l = length l.left
