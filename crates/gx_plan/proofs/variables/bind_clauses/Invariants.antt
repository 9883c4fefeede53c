use Rattle.std.proofs.Common.{◌≡◌, length}
use Rattle.gx_plan.specs.Variables.{with_variables_of_clauses}
use Rattle.gx_plan.proofs.variables.bind_clauses.Given as goal

-- with those of the clauses that are left, these are all
abbrev pub invariant-loop-clause : goal.invariant-loop-clause
invariant-loop-clause l = with_variables_of_clauses l.left l.variables ≡ with_variables_of_clauses l.clauses l.fn.variables

abbrev pub decreases-loop-clause : goal.decreases-loop-clause
decreases-loop-clause l = length l.left
