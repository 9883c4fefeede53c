use Rattle.std.proofs.Common.{◌≡◌, ◌++◌, length}
use Rattle.gx_core.specs.QueryMeaning.{parameter_types}
use Rattle.gx_plan.proofs.variables.bind_parameters.Given as goal

-- before those that are bound come those that are left
abbrev pub invariant-loop-last : goal.invariant-loop-last
invariant-loop-last l = parameter_types l.left ++ l.variables ≡ parameter_types l.parameters ++ l.fn.variables

abbrev pub decreases-loop-last : goal.decreases-loop-last
decreases-loop-last l = length l.left
