use Rattle.std.proofs.Common.{◌≡◌}
use Rattle.gx_plan.specs.Variables.{with_variables_in, with_variables_in_all}
use Rattle.gx_plan.specs.Walk.{walk_left}
use Rattle.gx_plan.proofs.variables.bind_all.Given as goal

-- with those of the expressions that are left, these are all
abbrev pub invariant-loop : goal.invariant-loop
invariant-loop l = with_variables_in_all (walk_left l.walk.pending) l.variables ≡ with_variables_in l.fn.expression l.fn.variables
