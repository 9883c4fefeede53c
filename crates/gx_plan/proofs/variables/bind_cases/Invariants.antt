use Rattle.std.proofs.Common.{◌≡◌, length}
use Rattle.gx_plan.specs.Variables.{case_variables}
use Rattle.gx_plan.proofs.variables.bind_cases.Given as goal

-- before those that are bound come those that are left
abbrev pub invariant-loop-last : goal.invariant-loop-last
invariant-loop-last l = case_variables l.left l.variables ≡ case_variables l.cases l.fn.variables

abbrev pub decreases-loop-last : goal.decreases-loop-last
decreases-loop-last l = length l.left
