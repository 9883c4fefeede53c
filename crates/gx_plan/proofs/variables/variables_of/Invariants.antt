use Rattle.std.proofs.Common.{◌≡◌, [], length}
use Rattle.gx_plan.specs.Variables.{with_variables_declared}
use Rattle.gx_plan.proofs.variables.variables_of.Given as goal

-- with those of the declarations that are left, these are all
abbrev pub invariant-loop-declaration : goal.invariant-loop-declaration
invariant-loop-declaration l = with_variables_declared l.left l.variables ≡ with_variables_declared l.query.declarations []

abbrev pub decreases-loop-declaration : goal.decreases-loop-declaration
decreases-loop-declaration l = length l.left
